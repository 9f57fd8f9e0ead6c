-- The rules of a step. `access_at` is the one memory access that a seat makes in its phase, worked out from the seat
-- alone, and `advance_at` what follows from the word that the access gave: the seat, the node count and the report.
use Rattle.std.specs.Prelude.{ℕ, ◌+◌, ◌-◌, ◌/◌, ◌%◌, ◌^◌, Bool, true, false, cond, List, [], ◌∷◌, length, Some, None, Option, ◌==◌, nat_lt, slice_index, slice_index_or}
use Rattle.rules.specs.Nodes.{cell_of, entry, level, link, high, entries, covers, child, found, put_in, post_in, node_word}
use Rattle.rules.specs.Seats.{drafted, left_entries, right_entries, laid, in_phase, at_node, with_word, with_draft, posting}
use Rattle.rules.specs.declared.access.Access.{Access}
use Rattle.rules.specs.declared.access.Access.TheVariants as access
use Rattle.rules.specs.declared.access.Extent.{Extent}
use Rattle.rules.specs.declared.report.Outcome.{Outcome}
use Rattle.rules.specs.declared.report.Outcome.TheVariants as outcome
use Rattle.rules.specs.declared.report.Report.{Report}
use Rattle.rules.specs.declared.report.Report.TheVariants.{GoneOn, TurnedBack, Latched, Published, Posted, Unchanged, Found, Absent, Ended}
use Rattle.rules.specs.declared.seat.Entry.{Entry}
use Rattle.rules.specs.declared.seat.Operation.{Operation}
use Rattle.rules.specs.declared.seat.Operation.TheVariants as operation
use Rattle.rules.specs.declared.seat.Part.{Part}
use Rattle.rules.specs.declared.seat.Part.TheVariants.{Left, Right, Own}
use Rattle.rules.specs.declared.seat.Phase.{Phase}
use Rattle.rules.specs.declared.seat.Phase.TheVariants as phase
use Rattle.rules.specs.declared.seat.Draft.{Draft}
use Rattle.rules.specs.declared.seat.Seat.{Seat}

-- the version in a lock word: the word with its lowest bit, the latch, cleared
abbrev pub version_in : ℕ → ℕ
version_in w = w - w % 2

-- the version that the seat looked at
abbrev pub version : Seat → ℕ
version s = slice_index s.copy 0

abbrev pub is_root : Seat → Bool
is_root s = s.node == 0

-- one more write would take the lock word past the top word
abbrev pub worn : Extent → Seat → Bool
worn x s = nat_lt x.top (version s + 2)

-- the draft has more entries than a node may have
abbrev pub splits : ℕ → Draft → Bool
splits fan d = nat_lt fan d.len

-- so many of a split's entries go left
abbrev pub left_count : ℕ → ℕ
left_count fan = (fan + 2) / 2

-- the last left key of a split of these entries
abbrev pub split_key : ℕ → List Entry → ℕ
split_key fan es = (slice_index_or es (left_count fan - 1) (entry 0 0)).key

-- the node that a part of an update fills
abbrev pub part_node : Part → Seat → ℕ
part_node Left s = s.draft.left
part_node Right s = s.draft.right
part_node Own s = s.node

-- word `w` of the latched node once it is written: the risen root's, the left node's of a split, or the node's with its new entries
abbrev pub own_word : ℕ → Seat → ℕ → ℕ
own_word fan s w =
    cond (splits fan s.draft)
    (cond (is_root s)
    (node_word s.draft.level 0 0 (entry s.draft.edge s.draft.left ∷ (entry 0 s.draft.right ∷ [])) w)
    (node_word s.draft.level s.draft.right s.draft.edge (left_entries s.draft) w))
    (node_word s.draft.level (link s.copy) (high s.copy) (drafted s.draft) w)

-- word `w` of a node that is filled; the right node of a split gets the link and the high key that the node had, which are 0 in the root
abbrev pub fill_word : ℕ → Seat → Part → ℕ → ℕ
fill_word fan s Left w = node_word (level s.copy) s.draft.right s.draft.edge (left_entries s.draft) w
fill_word fan s Right w =
    node_word (level s.copy) (cond (is_root s) 0 (link s.copy)) (cond (is_root s) 0 (high s.copy)) (right_entries s.draft) w
fill_word fan s Own w = own_word fan s w

abbrev pub access_at : Extent → Phase → Seat → Option Access
access_at x phase.Idle s = None
access_at x phase.Look s = Some (access.Read (cell_of s.node 0))
access_at x (phase.Copy i) s = Some (access.Read (cell_of s.node i))
access_at x phase.Check s = Some (access.Read (cell_of s.node 0))
access_at x phase.Latch s = cond (worn x s) None (Some (access.Swap (cell_of s.node 0) (version s) (version s + 1)))
access_at x phase.Take s = None
access_at x (phase.Fill p i) s = Some (access.Write (cell_of (part_node p s) i) (fill_word x.fan s p i))
access_at x phase.Release s = Some (access.Write (cell_of s.node 0) s.draft.freeing)
access_at x phase.Undo s = Some (access.Write (cell_of s.node 0) s.draft.freeing)
access_at x (phase.End o) s = None

abbrev pub access_of : Extent → Seat → Option Access
access_of x s = access_at x s.phase s

-- after word `i` of a copy
abbrev pub copy_next : ℕ → Phase
copy_next i = cond (nat_lt i 31) (phase.Copy (i + 1)) phase.Check

-- after the last word of a part, and after word `i` of it: the taken nodes come first, and the latched node keeps its lock word
abbrev pub part_next : Part → Phase
part_next Left = phase.Fill Right 0
part_next Right = phase.Fill Own 1
part_next Own = phase.Release

abbrev pub fill_next : Part → ℕ → Phase
fill_next p i = cond (nat_lt i 31) (phase.Fill p (i + 1)) (part_next p)

-- how a put ends that is stopped: a posting was published before
abbrev pub stopped : Operation → Outcome → Outcome
stopped operation.Find o = o
stopped (operation.Put v) o = o
stopped (operation.Post m d) o = outcome.Untold

-- how a put ends whose key had this value
abbrev pub stored : Option ℕ → Outcome
stored None = outcome.Stored
stored (Some v) = outcome.Replaced v

-- how a find ends at node `n`
abbrev pub answered : ℕ → Option ℕ → Report
answered n None = Absent n
answered n (Some v) = Found n v

-- the nodes that a split takes: two for the root's
abbrev pub needed : Seat → ℕ
needed s = cond (is_root s) 2 1

-- the draft with the taken nodes, `n` the first: the root gives both halves away and rises, another node keeps the left one
abbrev pub with_nodes : Seat → ℕ → Draft
with_nodes s n =
    record {
      freeing = s.draft.freeing;
      level = cond (is_root s) (s.draft.level + 1) s.draft.level;
      outcome = s.draft.outcome;
      left = cond (is_root s) n s.node;
      right = cond (is_root s) (n + 1) n;
      edge = s.draft.edge;
      left_len = s.draft.left_len;
      len = s.draft.len;
      entries = s.draft.entries;
    }

-- the memory has room for the taken nodes, `n` being in use, and for the root's level
abbrev pub fits : Extent → Seat → ℕ → Bool
fits x s n = cond (nat_lt x.nodes (n + needed s)) false (cond (is_root s) (nat_lt s.draft.level x.top) true)

abbrev pub takes : Extent → Seat → ℕ → Seat × ℕ × Report
takes x s n =
    cond (fits x s n)
    (with_draft s (with_nodes s n) (phase.Fill (cond (is_root s) Left Right) 0), n + needed s, GoneOn s.node)
    (in_phase s phase.Undo, n, GoneOn s.node)

-- a posting seeks the last left key of the split
abbrev pub posted_key : Seat → ℕ
posted_key s = s.draft.edge

-- a split is posted one level higher, if that level has a number
abbrev pub posts_on : Seat → Seat
posts_on s =
    cond (nat_lt (s.aim + 1) (2 ^ 64)) (posting s (posted_key s) s.draft.right) (in_phase s (phase.End outcome.Untold))

-- after the release: a split of a node other than the root is posted, else the put ends
abbrev pub releases : Extent → Seat → Seat × Report
releases x s = (
  cond (splits x.fan s.draft)
      (cond (is_root s) (in_phase s (phase.End s.draft.outcome)) (posts_on s))
      (in_phase s (phase.End s.draft.outcome)),
  cond (level s.copy == 0) (Published s.node) (Posted s.node),
)

-- the node count stays
abbrev pub steady : ℕ → Seat × Report → Seat × ℕ × Report
steady n m = (m.0, n, m.1)

module _ (before : ℕ → ℕ → Bool) where
  -- the latched node's entries once the operation is done
  abbrev pub content_by : Operation → ℕ → List Entry → List Entry
  content_by operation.Find k es = es
  content_by (operation.Put v) k es = put_in before k v es
  content_by (operation.Post m d) k es = post_in before m d es

  abbrev pub content : Seat → List Entry
  content s = content_by s.operation s.key (entries s.copy)

  -- how a put ends once all is written, by the entries that the latched node had; a posting follows a put of a new key
  abbrev pub finished : Operation → ℕ → List Entry → Outcome
  finished operation.Find k es = outcome.Stored
  finished (operation.Put v) k es = stored (found before k es)
  finished (operation.Post m d) k es = outcome.Stored

  -- what a seat that has won the latch will write
  abbrev pub draft_of : ℕ → Seat → Draft
  draft_of fan s =
      record {
        freeing = version s + 2;
        level = level s.copy;
        outcome = finished s.operation s.key (entries s.copy);
        left = 0;
        right = 0;
        edge = split_key fan (content s);
        left_len = left_count fan;
        len = length (content s);
        entries = laid (content s) s.draft.entries;
      }

  -- at a covering node of the aimed level: a find is answered, a put and a posting go on to latch
  abbrev pub arrives : Operation → Seat → Seat × Report
  arrives operation.Find s = (in_phase s phase.Idle, answered s.node (found before s.key (entries s.copy)))
  arrives (operation.Put v) s = (in_phase s phase.Latch, GoneOn s.node)
  arrives (operation.Post m d) s = (in_phase s phase.Latch, GoneOn s.node)

  -- an accepted copy: on to the link of a node that doesn't cover the key, to the child of one above the aim, or arrived
  abbrev pub accepts : Seat → Seat × Report
  accepts s =
      cond (covers before s.copy s.key)
      (cond (nat_lt s.aim (level s.copy))
      (at_node s (child before s.key (entries s.copy)), GoneOn s.node)
      (arrives s.operation s))
      (at_node s (link s.copy), GoneOn s.node)

  -- after the swap of the lock word, which held `w`
  abbrev pub latches : Extent → Seat → ℕ → Seat × Report
  latches x s w =
      cond (worn x s)
      (in_phase s (phase.End (stopped s.operation outcome.Worn)), GoneOn s.node)
      (cond (w == version s)
      (with_draft s (draft_of x.fan s) (cond (splits x.fan (draft_of x.fan s)) phase.Take (phase.Fill Own 1)), Latched s.node)
      (in_phase s phase.Look, TurnedBack s.node))

  -- a step of seat `s`, `n` nodes being in use, whose access gave `w`
  abbrev pub advance_at : Extent → Phase → Seat → ℕ → ℕ → Seat × ℕ × Report
  advance_at x phase.Idle s n w = (s, n, GoneOn s.node)
  advance_at x phase.Look s n w = (with_word s 0 (version_in w) (phase.Copy 1), n, GoneOn s.node)
  advance_at x (phase.Copy i) s n w = (with_word s i w (copy_next i), n, GoneOn s.node)
  advance_at x phase.Check s n w =
      cond (w == version s) (steady n (accepts s)) (in_phase s phase.Look, n, TurnedBack s.node)
  advance_at x phase.Latch s n w = steady n (latches x s w)
  advance_at x phase.Take s n w = takes x s n
  advance_at x (phase.Fill p i) s n w = (in_phase s (fill_next p i), n, GoneOn s.node)
  advance_at x phase.Release s n w = steady n (releases x s)
  advance_at x phase.Undo s n w = (in_phase s (phase.End (stopped s.operation outcome.Full)), n, Unchanged s.node)
  advance_at x (phase.End o) s n w = (in_phase s phase.Idle, n, Ended s.node o)

  abbrev pub advance : Extent → Seat → ℕ → ℕ → Seat × ℕ × Report
  advance x s n w = advance_at x s.phase s n w
