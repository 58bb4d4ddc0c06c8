use Rattle.std.proofs.Common.{◌≡◌, ℕ, List, [], ◌∷◌, ◌++◌, sym, refl, ap, ◌∙◌, subst, arith, Bor, None}
use Rattle.std.proofs.lemmas.Bool.Decides.{nat_tests}
use Rattle.std.proofs.lemmas.Result.{err_from_is_err_and}
use Rattle.script.specs.Script.{contents}
use Rattle.script.specs.declared.split.ScriptError.TheVariants.{Damaged}
use Rattle.script.proofs.Joined.{SplitSo, begins_long, taken, none_taken, split_first, split_more, split_damaged, split_all}
use Rattle.script.proofs.split.split_commands.Goals as goal

contents_more : (rs : List (Bor (List ℕ))) (r : Bor (List ℕ)) → contents (rs ++ r ∷ []) ≡ contents rs ++ r.now ∷ []
contents_more [] r = refl
contents_more (q ∷ rs) r = ap (λ (cs : List (List ℕ)). q.now ∷ cs) (contents_more rs r)

pub loop-rest-init : goal.loop-rest-init
loop-rest-init c = subst (λ (rs : List (Bor (List ℕ))). SplitSo c.args.file.now c.args.file.now (contents rs)) (sym c.new-commands.ensures.items) (split_first c.args.file.now)

pub loop-rest-smaller : goal.loop-rest-smaller
loop-rest-smaller c =
    omega (arith, begins_long c.loop-rest.rest.now c.in_ok-command.command.now c.in_ok-command.behind.now (taken _ _ _ c.first_command.ensures c.in_ok-command.ensures.ok_part))

pub loop-rest-preserved : goal.loop-rest-preserved
loop-rest-preserved c =
    subst (λ (cs : List (List ℕ)). SplitSo c.args.file.now c.in_ok-command.behind.now cs) (sym (ap contents c.in_ok-push.ensures.items ∙ contents_more c.loop-rest.commands.items c.in_ok-command.command))
    (split_more c.args.file.now c.loop-rest.rest.now c.in_ok-command.behind.now c.in_ok-command.command.now _ (omega arith) (taken _ _ _ c.first_command.ensures c.in_ok-command.ensures.ok_part)
    c.loop-rest.invariant)

pub returns-in_err-command : goal.returns-in_err-command
returns-in_err-command c =
    let p = err_from_is_err_and c.from_residual.result c.from_residual.ensures.1 in
    let gone : c.first_command.result ≡ None = c.in_err-command.ensures.ok_part in
    let which = rw gone at c.in_err-command.ensures.value in
    let damaged : c.in_err-command.field-0.0 ≡ Damaged = cc in
    rw (p.1, p.2, damaged) (split_damaged c.args.file.now c.loop-rest.rest.now _ (λ e. grind (arith, nat_tests, c.loop-rest-test.ensures)) c.loop-rest.invariant (none_taken _ _ c.first_command.ensures gone))

pub returns : goal.returns
returns c = split_all c.args.file.now c.loop-rest.rest.now _ (grind (arith, nat_tests, c.loop-rest-test.ensures)) c.loop-rest.invariant
