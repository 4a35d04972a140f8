-- A trial of the functions that a run after a granted make comes to is reached in the subject's words
-- (`functions_reach_by`).
use Rattle.std.proofs.Common.{◌≡◌, ◌⊎◌, ap, subst, inl, inr}
use Rattle.meaning.specs.Mixes.{Draft, filling, trying, settled, Mix}
use Rattle.calls.specs.Stores.{Held}
use Rattle.calls.specs.Sheets.{Counts}
use Rattle.calls.specs.Views.{Whole, read_trial}
use Rattle.calls.specs.Exact.{MakeExact}
use Rattle.calls.specs.Runs.{Place, sheet, trial, ended, read_place, Sound, run, RunsAreExact, RunsAreSound}
use Rattle.calls.specs.Runs.{FunctionsReach}
use Rattle.calls.proofs.MakeExact.{make_exact}

-- what is kept at either end
whole_at : (p : Place) (t : Counts) (h : Held) → Sound p → (p ≡ trial t h) ⊎ (p ≡ ended t h) → Whole t h
whole_at p t h s (inl e) = subst Sound e s
whole_at p t h s (inr e) = subst Sound e s

ends_at :
    (p : Place) (t : Counts) (h : Held) → (p ≡ trial t h) ⊎ (p ≡ ended t h) →
    (read_place p ≡ trying (read_trial t h)) ⊎ (read_place p ≡ settled (read_trial t h))
ends_at p t h (inl e) = inl (ap read_place e)
ends_at p t h (inr e) = inr (ap read_place e)

pub functions_reach_by : RunsAreExact → RunsAreSound → FunctionsReach
functions_reach_by exact sound K letter h bs f cs t h' enough granted turns at =
    let made = subst (MakeExact letter h bs) granted (make_exact letter h bs enough) in
    let p = run K (sheet f h) cs in (
      record {
        letter = letter;
        bytes = bs;
        header = made.1.0;
        made = made.1.1;
        calls = cs;
        stage = read_place p;
        mix =
            subst (λ (D : Draft). Mix K (filling D) cs (read_place p)) made.1.2
            ((exact K (sheet f h) cs made.0).0 turns);
        ends = ends_at p t h' at;
      },
      whole_at p t h' (sound K (sheet f h) cs made.0 turns) at,
    )
