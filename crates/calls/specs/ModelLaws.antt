-- What the tests of a model grant, in the subject's words.
use Rattle.std.specs.Prelude.{◌≡◌, ℕ, ◌≤◌, ◌↔◌, List, length, Ok}
use Rattle.meaning.specs.Terms.{Sheet}
use Rattle.meaning.specs.Meaning.{CodeMeaning, Satisfies}
use Rattle.meaning.specs.Calculus.{Branch}
use Rattle.meaning.specs.Model.{Lawful, Named}
use Rattle.meaning.specs.Mixes.{most_tuples, Few}
use Rattle.calls.specs.Models.{model_answer}

-- A model with as many representatives as its count says is granted exactly where they are lawful for the
-- names of the branch, the terms have few enough tuples, and every constraint holds by representatives.
abbrev pub ModelsGrantedExactly : Type 0
ModelsGrantedExactly =
    (K : CodeMeaning) (S : Sheet) (b : Branch) (count : ℕ) (rs : List ℕ) →
    length rs ≡ count → length S.codes ≤ b.count →
    (model_answer K S b count rs ≡ Ok tt)
    ↔ (Lawful K S b.count rs × Few S rs b.facts most_tuples × Satisfies S (Named S rs b.facts))
