use Rattle.std.proofs.Common.{◌+◌, ◌*◌, ◌∙◌, get_or, sym, arith, rules, tests, refl}
use Rattle.std.proofs.lemmas.List.{ext_get_or}
use Rattle.dump.proofs.Listing.{node_length, node_word, made_by}
use Rattle.dump.proofs.nodes.words_of.Goals as goal

pub returns : goal.returns
returns g c =
    let cells = g.M.Memory.cells c.args.memory.now in
    ext_get_or 0 c.from_fn.result _ (c.from_fn.ensures.items.long ∙ sym (node_length cells c.args.node c.requires))
    (λ k below. made_by _ _ (λ i. get_or cells (32 * c.args.node + i) 0) (λ i y q h. search (rules, tests)) 32 0 _ _ refl c.from_fn.ensures.items.each k k 0 (omega (arith, c.from_fn.ensures.items.long)) (omega arith) ∙ sym (node_word cells c.args.node c.requires k (omega (arith, c.from_fn.ensures.items.long))))
