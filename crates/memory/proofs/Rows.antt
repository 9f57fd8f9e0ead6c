-- A write of a word that fits.
use Rattle.std.proofs.Common.{◌≡◌, ℕ, ◌≤◌, List, set}
use Rattle.std.proofs.lemmas.Bool.{le-ltb}
use Rattle.memory.specs.Row.{written}

pub written_in : (row : List ℕ) (top cell word : ℕ) → word ≤ top → set row cell word ≡ written row top cell word
written_in row top cell word w = rw (le-ltb top word w)
