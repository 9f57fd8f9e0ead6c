-- What a command line asks for.
use Rattle.std.specs.Prelude.{◌≡◌, ℕ, ◌<◌, cond, List, IfErr, Some, None, Ok, Err, codes, Result}
use Rattle.std.specs.Str.Parse.{ParsesUnsigned}
use Rattle.std.specs.Str.{bytes_eq}
use Rattle.memory.specs.declared.width.Width.{Width}
use Rattle.memory.specs.declared.width.Width.TheVariants.{Two, Four, Eight}
use Rattle.dump.specs.declared.request.Request.{Request}
use Rattle.dump.specs.declared.request.Usage.{Usage}
use Rattle.dump.specs.declared.request.Usage.TheVariants.{NoWidth, StrangeWidth, StrangeCount, TooMany}

-- just the texts 2, 4 and 8 name a width
abbrev pub width_named : List ℕ → Result Width Usage
width_named text =
    cond (bytes_eq text (codes "2")) (Ok Two) (cond (bytes_eq text (codes "4")) (Ok Four) (cond (bytes_eq text (codes "8")) (Ok Eight) (Err StrangeWidth)))

-- a width alone, and a width with a node count, as a request
abbrev pub asks_rows : Result Width Usage → Result Request Usage
asks_rows (Err usage) = Err usage
asks_rows (Ok width) = Ok (record { width = width; nodes = None })

abbrev pub asks_nodes : Result Width Usage → Result ℕ Usage → Result Request Usage
asks_nodes (Err usage) count = Err usage
asks_nodes (Ok width) (Err usage) = Err usage
asks_nodes (Ok width) (Ok n) = Ok (record { width = width; nodes = Some n })

-- a text names a count if it is a decimal number below 2^64
abbrev pub NamesCount : List ℕ → Result ℕ Usage → Type 0
NamesCount text r = ParsesUnsigned 64 10 text r × IfErr r (λ usage. usage ≡ StrangeCount)

-- what is asked with a width and a node count
abbrev pub AsksNodes : List ℕ → List ℕ → Result Request Usage → Type 0
AsksNodes width count r = (n : Result ℕ Usage) × NamesCount count n × (r ≡ asks_nodes (width_named width) n)

-- what is asked with `count` arguments, of which the first two are `first` and `second`
pub record Asked (count : ℕ) (first second : List ℕ) (r : Result Request Usage) : Type 0 where
  pub none : count ≡ 0 → r ≡ Err NoWidth
  pub one : count ≡ 1 → r ≡ asks_rows (width_named first)
  pub two : count ≡ 2 → AsksNodes first second r
  pub more : 2 < count → r ≡ Err TooMany

abbrev pub usage_text : Usage → List ℕ
usage_text NoWidth = codes "the cell width is missing: 2, 4 or 8"
usage_text StrangeWidth = codes "the cell width must be 2, 4 or 8"
usage_text StrangeCount = codes "the node count must be a decimal number below 2^64"
usage_text TooMany = codes "two arguments are expected at most: the cell width and the node count"
