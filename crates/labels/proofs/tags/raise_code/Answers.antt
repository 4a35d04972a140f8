use Rattle.std.proofs.Common.{◌≡◌, ℕ, ◌∙◌, arith}
use Rattle.std.specs.Char.{to_ascii_uppercase}
use Rattle.std.proofs.lemmas.Bool.Decides.{nat_tests}
use Rattle.labels.specs.Tags.{raised}
use Rattle.labels.proofs.tags.raise_code.Goals as goal

upper : (b : ℕ) → to_ascii_uppercase b ≡ raised b
upper b = grind (arith, nat_tests)

pub returns : goal.returns
returns c = c.from_be_bytes.ensures ∙ rw (c.make_ascii_uppercase.ensures.after, c.to_be_bytes-bytes.ensures) (simp upper (omega arith))
