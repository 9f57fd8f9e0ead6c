-- What a seat's course makes of it, and what the step reports.
use Rattle.rules.specs.Seats.{in_phase, at_node}
use Rattle.rules.specs.Steps.{answered}
use Rattle.rules.specs.declared.report.Report.{Report}
use Rattle.rules.specs.declared.report.Report.TheVariants as report
use Rattle.rules.specs.declared.seat.Phase.TheVariants as phase
use Rattle.rules.specs.declared.seat.Seat.{Seat}
use Rattle.node.specs.declared.course.Course.{Course}
use Rattle.node.specs.declared.course.Course.TheVariants.{To, Latch, Answer}

abbrev pub followed : Seat → Course → Seat × Report
followed s (To n) = (at_node s n, report.GoneOn s.node)
followed s Latch = (in_phase s phase.Latch, report.GoneOn s.node)
followed s (Answer found) = (in_phase s phase.Idle, answered s.node found)
