-- The index that the program starts with.
use Rattle.std.proofs.Common.{◌≡◌, ℕ, List, [], replicate, refl, ap, ◌∙◌, subst, append-nil, lit<, lit≤}
use Rattle.std.proofs.lemmas.List.{take_all}
use Rattle.memory.specs.Row.{front}
use Rattle.order.specs.Number.{number_key, number_before}
use Rattle.order.specs.NumberLaws.{number_ordered}
use Rattle.rules.specs.Calls.{format}
use Rattle.rules.specs.Laws.{Lawful}
use Rattle.rules.specs.PlainMap.{empty_map}
use Rattle.rules.specs.Runs.{Reached, formatted}
use Rattle.rules.specs.State.{State}
use Rattle.tape.specs.Laws.{StaysLawful}
use Rattle.tape.specs.Play.{play}
use Rattle.tape.specs.Program.{unformatted, start}
use Rattle.tape.proofs.Leading.{stays_lawful}

-- over 512 zeros
pub starts : (st : State) (words : List ℕ) → words ≡ replicate 512 0 → st ≡ (format (unformatted (front words) 18446744073709551615 number_key number_before) 3).1 → st ≡ start
unfolding front start
starts st words zeros e =
    e ∙ ap (λ cells. (format (unformatted cells 18446744073709551615 number_key number_before) 3).1) (ap front zeros ∙ take_all 65536 (replicate 512 0) (lit≤ tt))

reached : Reached empty_map [] start
unfolding start
reached = formatted (unformatted (replicate 512 0) 18446744073709551615 number_key number_before) 3 (record { short = lit≤ tt; tall = lit≤ tt; wide = lit< tt }) number_ordered refl

pub start_lawful : (tape : List ℕ) → Lawful empty_map (play start tape).events
unfolding StaysLawful
start_lawful tape = subst (Lawful empty_map) (append-nil (play start tape).events) (stays_lawful tape start empty_map [] reached)
