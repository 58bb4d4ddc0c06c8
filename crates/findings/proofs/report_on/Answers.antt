use Rattle.std.proofs.Common.{ℕ, vec_items, ◌∙◌, subst}
use Rattle.program.specs.Command.{empty_program}
use Rattle.valid.specs.Held.{held_program}
use Rattle.findings.specs.Ends.{AllEnds}
use Rattle.findings.proofs.Shows.{load_stands, alarms_stand, tells_all}
use Rattle.findings.proofs.report_on.Goals as goal

pub returns : goal.returns
returns c =
    let p = held_program c.args.program.now in
    let loaded = load_stands _ _ _ _ _ empty_program c.bytes.ensures c.args.program.now.loads.1 (c.in_ok-tell.ensures.answers empty_program c.in_ok-session.ensures) in
    let stays = alarms_stand _ _ _ p (c.in_ok-told.ensures.answers p loaded) in
    let ends = c.in_ok-ends.ensures p stays c.variables.ensures in
    record {
      tells = tells_all (record { alarms = c.in_ok-told.told.rows; ends = c.in_ok-ends.ends }) p (c.in_ok-told.ensures.faults p loaded) (subst (λ (n : ℕ). AllEnds p n (vec_items c.in_ok-ends.ends)) c.variables.ensures ends);
      rows = c.in_ok-ends.ends.ok.0 ∙ ends.count ∙ c.variables.ensures;
    }
