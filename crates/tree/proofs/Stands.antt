-- All that holds of the tree, in one record.
use Rattle.tree.specs.Stands.{TreeStands}
use Rattle.tree.proofs.Walks.{move_right, move_down, leaf_answers}
use Rattle.tree.proofs.Starting.{starts, formatted}
use Rattle.tree.proofs.Seats.{seats_start, seats_stay, seats_go_on}
use Rattle.tree.proofs.Fitting.{updates_fit}
use Rattle.tree.proofs.Words.{updates_small, in_use}
use Rattle.tree.proofs.Making.{made}
use Rattle.tree.proofs.Splitting.{splitting_keeps}
use Rattle.tree.proofs.Rising.{rising_keeps}
use Rattle.tree.proofs.Storing.{storing_keeps}
use Rattle.tree.proofs.Posting.{posting_keeps}
use Rattle.tree.proofs.Releases.{storing_overflows, storing_grows, posting_overflows, posting_grows}

pub tree_stands : TreeStands
tree_stands o = record {
  moves_right = move_right o;
  moves_down = move_down o;
  leaf_answers = leaf_answers o;
  starts = starts o;
  seats_start = seats_start o;
  seats_stay = seats_stay o;
  seats_go_on = seats_go_on o;
  formatted = formatted o;
  stores = storing_keeps o;
  stores_overflows = storing_overflows o;
  stores_grows = storing_grows o;
  posts = posting_keeps o;
  posts_overflows = posting_overflows o;
  posts_grows = posting_grows o;
  fits = updates_fit o;
  small = updates_small o;
  in_use = in_use o;
  made = made o;
  splits = splitting_keeps o;
  rises = rising_keeps o;
}
