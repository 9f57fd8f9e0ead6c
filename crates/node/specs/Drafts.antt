-- A draft with another lock word to free the node by.
use Rattle.std.specs.Prelude.{ℕ}
use Rattle.rules.specs.declared.seat.Draft.{Draft}

abbrev pub freed_by : ℕ → Draft → Draft
freed_by word d =
    record {
      freeing = word;
      level = d.level;
      outcome = d.outcome;
      left = d.left;
      right = d.right;
      edge = d.edge;
      left_len = d.left_len;
      len = d.len;
      entries = d.entries;
    }
