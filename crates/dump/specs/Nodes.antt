-- The text of an index's nodes.
use Rattle.std.specs.Prelude.{ℕ, zero, suc, ◌+◌, ◌*◌, ◌%◌, cond, List, [], ◌∷◌, ◌++◌, codes, decimal, ◌==◌, slice_index}
use Rattle.std.specs.List.{between}
use Rattle.memory.specs.declared.width.Width.{Width}
use Rattle.memory.specs.Bytes.{width_of, top_of, count_of, cells_of}
use Rattle.rules.specs.declared.seat.Entry.{Entry}
use Rattle.rules.specs.Nodes.{entries}
use Rattle.rules.specs.Steps.{version_in}
use Rattle.dump.specs.Page.{newline, head_text}

-- the words of node `n`
abbrev pub node_words : ℕ → List ℕ → List ℕ
node_words n cells = between (32 * n) (32 * n + 32) cells

-- the latch is the lowest bit of a lock word
abbrev pub latch_text : ℕ → List ℕ
latch_text lock = cond (lock % 2 == 0) (codes "free") (codes "latched")

-- the lock word with its latch and version, the level, the number of entries, the link and the high key
abbrev pub top_text : ℕ → List ℕ → List ℕ
top_text n ws =
    codes "node " ++ (decimal n ++ (codes ": lock word " ++ (decimal (slice_index ws 0) ++ (codes " (" ++ (latch_text (slice_index ws 0) ++ (codes ", version " ++ (decimal (version_in (slice_index ws 0)) ++ codes ")")))))))

abbrev pub links_text : List ℕ → List ℕ
links_text ws =
    codes ", level " ++ (decimal (slice_index ws 1) ++ (codes ", entries " ++ (decimal (slice_index ws 2) ++ (codes ", link " ++ (decimal (slice_index ws 3) ++ (codes ", high key " ++ (decimal (slice_index ws 4) ++ codes ":")))))))

-- each entry, key and value or child
abbrev pub entries_text : List Entry → List ℕ
entries_text [] = []
entries_text (e ∷ es) = codes " (" ++ (decimal e.key ++ (codes ", " ++ (decimal e.value ++ (codes ")" ++ entries_text es))))

abbrev pub node_text : ℕ → List ℕ → List ℕ
node_text n ws = top_text n ws ++ (links_text ws ++ (entries_text (entries ws) ++ newline))

-- `k` nodes from node `n` on
abbrev pub nodes_text : ℕ → ℕ → List ℕ → List ℕ
nodes_text n zero cells = []
nodes_text n (suc k) cells = node_text n (node_words n cells) ++ nodes_text (n + 1) k cells

-- how many cells there are and what they take, and the nodes in use
abbrev pub index_text : Width → ℕ → List ℕ → List ℕ
index_text width count bytes =
    head_text (count_of width bytes) (width_of width) (top_of width) ++ nodes_text 0 count (cells_of width bytes)
