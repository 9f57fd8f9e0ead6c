-- What each report tells: its number, node and word.
use Rattle.std.specs.Prelude.{ℕ, cond}
use Rattle.rules.specs.declared.report.Outcome.TheVariants.{Stored, Replaced, Untold, Full, Worn}
use Rattle.rules.specs.declared.report.Report.{Report}
use Rattle.rules.specs.declared.report.Report.TheVariants.{GoneOn, TurnedBack, Latched, Published, Posted, Unchanged, Found, Absent, Ended, Abandoned}

abbrev pub told : Report → ℕ × ℕ × ℕ
told (GoneOn n) = (0, n, 0)
told (TurnedBack n) = (1, n, 0)
told (Latched n) = (2, n, 0)
told (Published n) = (3, n, 0)
told (Posted n) = (4, n, 0)
told (Unchanged n) = (5, n, 0)
told (Found n w) = (6, n, w)
told (Absent n) = (7, n, 0)
told (Ended n Stored) = (8, n, 0)
told (Ended n (Replaced w)) = (9, n, w)
told (Ended n Untold) = (10, n, 0)
told (Ended n Full) = (11, n, 0)
told (Ended n Worn) = (12, n, 0)
told (Abandoned published) = (cond published 14 13, 0, 0)
