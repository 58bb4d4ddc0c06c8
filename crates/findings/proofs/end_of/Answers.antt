use Rattle.findings.proofs.Shows.{end_stands, end_in}
use Rattle.findings.proofs.end_of.Goals as goal

pub returns : goal.returns
returns c p st l =
    (end_stands _ _ _ _ p st.proper l (c.in_ok-answer.ensures.answers p st), end_in _ _ p l (c.in_ok-answer.ensures.ends p st) _ c.first_row.ensures)
