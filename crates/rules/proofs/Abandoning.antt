-- What an abandon reports is right: in each phase that may be abandoned it is known whether the operation was published.
use Rattle.std.proofs.Common.{◌≡◌, ℕ, Bool, true, false, ◌≢◌, [], Option, arith}
use Rattle.rules.specs.Calls.{is_post, is_written}
use Rattle.rules.specs.Histories.{History, Abandon}
use Rattle.rules.specs.PlainMap.{publishings}
use Rattle.rules.specs.Laws.{AbandonLaw}
use Rattle.rules.specs.declared.report.Outcome.{Outcome}
use Rattle.rules.specs.declared.report.Report.TheVariants.{Abandoned}
use Rattle.rules.specs.declared.seat.Operation.{Operation}
use Rattle.rules.proofs.Events.{answer_of}
use Rattle.rules.proofs.Inv.{Begins, Paid}

abbrev pub PublishedAs : (ℕ → Option ℕ) → History → ℕ → Bool → Type 0
PublishedAs m₀ h s true = publishings m₀ h s ≢ []
PublishedAs m₀ h s false = publishings m₀ h s ≡ []

-- before its release a put is not published, and a posting comes after one
pub begun_published : (m₀ : ℕ → Option ℕ) (h : History) (s : ℕ) (t : Operation) (k : ℕ) → Begins m₀ h s t k → PublishedAs m₀ h s (is_post t)
begun_published m₀ h s t k b = grind arith

pub ended_published : (m₀ : ℕ → Option ℕ) (h : History) (s : ℕ) (o : Outcome) → Paid m₀ h s o → PublishedAs m₀ h s (is_written o)
ended_published m₀ h s o p = grind arith

pub abandon_law : (m₀ : ℕ → Option ℕ) (h : History) (i : ℕ) (p : Bool) → PublishedAs m₀ h i p → (s : ℕ) → AbandonLaw m₀ h (answer_of (Abandon i) (Abandoned p)) s
abandon_law m₀ h i p k s t = grind arith
