use Rattle.std.proofs.Common.{rules, refl}
use Rattle.std.proofs.lemmas.Iterator.{YieldsList-from_slice}
use Rattle.std.proofs.lemmas.Iterator.Search.{position_from_yields_List}
use borrow.Author.Tests.{tests}
use Rattle.node.proofs.Ranks.{stops, ranked}
use Rattle.node.proofs.node.Node.rank.Goals as goal

pub returns : goal.returns
returns g c =
    let before = g.O.Order.before c.args.order.now in
    let pairs = c.pairs-pairs.result.now in
    let at = position_from_yields_List (stops before c.args.key) _ _ c.position.result c.position.ensures.ran (YieldsList-from_slice pairs cc) (λ x b q k. search (rules, tests)) in
    ranked before c.args.key pairs _ c.position.result _ c.unwrap_or.result at refl c.unwrap_or.ensures c.pairs-pairs.ensures
