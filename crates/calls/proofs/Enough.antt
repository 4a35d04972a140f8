-- Stores that are long enough pass the test of it (`enough_holds`), and a write leaves them long enough.
use Rattle.std.proofs.Common.{◌≡◌, ℕ, true, set, arith, length-set, le-leb}
use Rattle.std.proofs.lemmas.Bool.{and_from}
use Rattle.records.specs.declared.rows.Fact.{Fact}
use Rattle.records.specs.declared.rows.TermRow.{TermRow}
use Rattle.calls.specs.Stores.{Held, Enough, enough, with_labels, with_terms, with_facts}

pub enough_holds : (h : Held) → Enough h → enough h ≡ true
enough_holds h b =
    and_from _ _ (le-leb 32 _ b.labels)
    (and_from _ _ (le-leb 64 _ b.terms)
    (and_from _ _ (le-leb 1024 _ b.facts)
    (and_from _ _ (le-leb 64 _ b.forks)
    (and_from _ _ (le-leb 4096 _ b.tuples) (le-leb 64 _ b.representatives)))))

-- a label, a term or a fact is written
pub label_kept : (h : Held) (i c : ℕ) → Enough h → Enough (with_labels h (set h.labels i c))
label_kept h i c b = search (arith, length-set h.labels i c)

pub term_kept : (h : Held) (i : ℕ) (r : TermRow) → Enough h → Enough (with_terms h (set h.terms i r))
term_kept h i r b = search (arith, length-set h.terms i r)

pub fact_kept : (h : Held) (i : ℕ) (f : Fact) → Enough h → Enough (with_facts h (set h.facts i f))
fact_kept h i f b = search (arith, length-set h.facts i f)
