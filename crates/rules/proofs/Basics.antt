-- Facts of tests that most files need.
use Rattle.std.proofs.Common.{◌≡◌, Bool, true, false, T, sym, ◌∙◌}
use Rattle.std.proofs.lemmas.Bool.{true≢false}

pub both : {A : Type 0} (b : Bool) → b ≡ true → b ≡ false → A
both b t f = absurd (true≢false (sym t ∙ f))

pub fails : {A : Type 0} (b : Bool) → b ≡ false → T b → A
fails b f z = absurd (rw f at z)
