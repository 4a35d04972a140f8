-- The lawfulness of representatives as the code tests it, over the codes of the labels alone.
use Rattle.std.specs.Prelude.{ℕ, Bool, ◌&&◌, List, [], Some, None, Option, ◌==◌}
use Rattle.std.proofs.Math.Option as maybe
use Rattle.meaning.specs.Terms.{Sheet}
use Rattle.meaning.specs.Meaning.{CodeMeaning}
use Rattle.meaning.specs.Model.{rep}
use Rattle.calls.specs.Models.{same_label}

-- The sheet that has these codes and nothing else: lawfulness depends on no other part.
abbrev pub labelled_by : List ℕ → Sheet
labelled_by codes = record { codes = codes; free = 0; rows = []; constraints = [] }

-- Name d represents itself and bears the label of e.
abbrev pub taken_by : CodeMeaning → List ℕ → List ℕ → ℕ → ℕ → Bool
taken_by K codes rs d e = rep rs d == d && same_label K (labelled_by codes) d e

-- What the code answers, as the other type of options.
abbrev pub answered : Option ℕ → maybe.Option ℕ
answered None = maybe.none
answered (Some e) = maybe.some e
