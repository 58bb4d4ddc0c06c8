-- The memory and the row have their lengths, or nothing is done.
use Rattle.std.proofs.Common.{ℕ, refl, ap, arith}
use Rattle.model.specs.Promise.{command, next}
use Rattle.model.specs.Entry.{event_of}
use Rattle.model.proofs.Owed.{fits_length}
use Rattle.machine.proofs.Stepping.{says_fit, says_unfit, row_back}
use Rattle.machine.proofs.step.Goals as goal

pub returns-in_default : goal.returns-in_default
returns-in_default c =
    let a = c.args in
    says_unfit a.memory.now a.kind a.text.now a.out.now _ _ (λ e. c.in_default.ensures.cases (fits_length a.memory.now a.kind a.out.now e).0) refl refl

pub returns-in_default-first_chunk_mut : goal.returns-in_default-first_chunk_mut
returns-in_default-first_chunk_mut c =
    let a = c.args in
    says_unfit a.memory.now a.kind a.text.now a.out.now _ _
    (λ e. omega (arith, (fits_length a.memory.now a.kind a.out.now e).2, c.in_default-first_chunk_mut.ensures.cases)) c.in-Some.ensures.cases.same refl

pub returns-in-0 : goal.returns-in-0
returns-in-0 c =
    let a = c.args in
    let row = c.in-Some-first_chunk_mut in
    says_fit a.memory.now a.kind a.text.now a.out.now c.in-Some.words.now row.row.now (command a.text.now) c.obey.result c.obey.new.memory c.obey.new.out
    c.in-Some.ensures.cases.long c.in-Some.ensures.cases.same (omega (arith, c.in-0.is)) (ap (λ (k : ℕ). event_of k a.text.now) c.in-0.is)
    row.ensures.cases.enough row.ensures.cases.same c.obey.ensures

pub returns-in-1 : goal.returns-in-1
returns-in-1 c =
    let a = c.args in
    let row = c.in-Some-first_chunk_mut in
    says_fit a.memory.now a.kind a.text.now a.out.now c.in-Some.words.now row.row.now next c.go_on.result c.go_on.new.memory c.go_on.new.out
    c.in-Some.ensures.cases.long c.in-Some.ensures.cases.same (omega (arith, c.in-1.is)) (ap (λ (k : ℕ). event_of k a.text.now) c.in-1.is)
    row.ensures.cases.enough row.ensures.cases.same c.go_on.ensures

pub returns-in_default-kind : goal.returns-in_default-kind
returns-in_default-kind c =
    let a = c.args in
    let row = c.in-Some-first_chunk_mut in
    says_unfit a.memory.now a.kind a.text.now a.out.now _ _ (λ e. omega (arith, (fits_length a.memory.now a.kind a.out.now e).1))
    c.in-Some.ensures.cases.same (row_back a.out.now row.row.now row.ensures.cases.same)
