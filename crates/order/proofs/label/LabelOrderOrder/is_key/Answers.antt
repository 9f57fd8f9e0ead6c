use Rattle.std.proofs.Common.{rules, ◌≡◌, ℕ, ◌<◌, ◌≢◌, get_or}
use Rattle.order.proofs.Labels.{ended_bytes}
use Rattle.order.proofs.label.LabelOrderOrder.is_key.Goals as goal

pub returns-in-Some : goal.returns-in-Some
returns-in-Some c =
    let zero : get_or c.to_le_bytes.result c.in-Some.end 0 ≡ 0 = search rules in
    let none : (k : ℕ) → k < c.in-Some.end → get_or c.to_le_bytes.result k 0 ≢ 0 = λ k l e. search rules in
    ended_bytes c.args.word c.in-Some.end c.to_le_bytes.result c.to_le_bytes.ensures (search rules) zero none
