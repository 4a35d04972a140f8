-- What a granted step or settle rests on, told from its case (`told`), and the bytes of a step, told from how
-- they are read (`read_rule`, `read_model`) and read where they are told (`rule_is`, `model_is`).
use Rattle.std.proofs.Common.{◌≡◌, ℕ, ◌+◌, ◌*◌, ◌<◌, ◌≤◌, Bool, true, false, cond, ◌&&◌, eqb, leb, ◌⊎◌, List, [], ◌∷◌, length, drop, refl, ap, ◌∙◌, inl, inr, arith, eqb-true, le-leb, leb-true}
use Rattle.std.proofs.lemmas.Bool.{and_right, and_parts}
use Rattle.records.specs.declared.rows.Step.{Step}
use Rattle.calls.proofs.Bytes.{spelt}
use Rattle.records.specs.Reading.{rule, model, other, byte, marked, whole, step_of, step_in}
use Rattle.meaning.specs.Meaning.{CodeMeaning, Satisfies}
use Rattle.meaning.specs.Calculus.{Alt, Branch, Fork, running, Applies}
use Rattle.meaning.specs.Model.{Lawful, Named}
use Rattle.meaning.specs.Mixes.{most_tuples, most_records, undecided, Decided, Trial, Stage, filling, trying, settled, Call, add, seal, step, settle, Room, Few, Grants, rule_step, model_step, verdict_there}

-- ── cases ──────────────────────────────────────────────────────────────────

-- The bytes are a rule step that applies with room.
pub record ByRule (K : CodeMeaning) (T : Trial) (bs : List ℕ) : Type 0 where
  pub branch : Branch
  pub forks : List Fork
  pub alts : List Alt
  pub r : ℕ
  pub ph : ℕ
  pub pl : ℕ
  pub qh : ℕ
  pub ql : ℕ
  pub t : ℕ
  pub w : ℕ
  pub bytes : bs ≡ 83 ∷ 84 ∷ r ∷ ph ∷ pl ∷ qh ∷ ql ∷ t ∷ w ∷ []
  pub state : T.state ≡ running branch forks
  pub applies : Applies K T.sheet branch r (ph * 256 + pl) (qh * 256 + ql) t w alts
  pub room : Room branch forks alts

-- The bytes are a model of the trial's branch.
pub record ByModel (K : CodeMeaning) (T : Trial) (bs : List ℕ) : Type 0 where
  pub branch : Branch
  pub forks : List Fork
  pub count : ℕ
  pub reps : List ℕ
  pub bytes : bs ≡ 77 ∷ 68 ∷ count ∷ reps
  pub state : T.state ≡ running branch forks
  pub counted : length reps ≡ count
  pub lawful : Lawful K T.sheet branch.count reps
  pub few : Few T.sheet reps branch.facts most_tuples
  pub satisfies : Satisfies T.sheet (Named T.sheet reps branch.facts)

-- What a step or a settle of a trial rests on.
abbrev pub Told : CodeMeaning → Stage → Call → Type 0
Told K (filling D) c = Unit {0}
Told K (settled T) c = Unit {0}
Told K (trying T) (add bs) = Unit {0}
Told K (trying T) seal = Unit {0}
Told K (trying T) (step bs) =
    (T.verdict ≡ undecided) × (T.granted < most_records) × (ByRule K T bs ⊎ ByModel K T bs)
Told K (trying T) settle = Decided T.verdict

pub told : {K : CodeMeaning} {st st' : Stage} {c : Call} → Grants K st c st' → Told K st c
told (rule_step {b = b} {fs = fs} {alts = alts} r ph pl qh ql t w v e l a has) = (
  v,
  l,
  inl
      (record {
        branch = b;
        forks = fs;
        alts = alts;
        r = r;
        ph = ph;
        pl = pl;
        qh = qh;
        ql = ql;
        t = t;
        w = w;
        bytes = refl;
        state = e;
        applies = a;
        room = has;
      }),
)
told (model_step {b = b} {fs = fs} count rs v e l n lawful few sat) = (
  v,
  l,
  inr
      (record {
        branch = b;
        forks = fs;
        count = count;
        reps = rs;
        bytes = refl;
        state = e;
        counted = n;
        lawful = lawful;
        few = few;
        satisfies = sat;
      }),
)
told (verdict_there d) = d
told _ = tt

-- ── bytes ──────────────────────────────────────────────────────────────────

-- the bytes of a model are read as one
model_reads : (n : ℕ) (rs : List ℕ) → step_in (77 ∷ 68 ∷ n ∷ rs) ≡ model n rs
model_reads n rs =
    let l : leb 3 (length (77 ∷ 68 ∷ n ∷ rs)) ≡ true = le-leb _ _ (omega arith) in
    λ i. cond (and_right (eqb (length (77 ∷ 68 ∷ n ∷ rs)) 9) false refl i) (rule (step_of (77 ∷ 68 ∷ n ∷ rs)))
    (cond (l i && true) (model n rs) other)

-- what the bytes of a case are read as
pub rule_is :
    {K : CodeMeaning} {T : Trial} {bs : List ℕ} (c : ByRule K T bs) →
    step_in bs ≡ rule (record { rule = c.r; p = c.ph * 256 + c.pl; q = c.qh * 256 + c.ql; t = c.t; w = c.w })
rule_is c = ap step_in c.bytes

pub model_is : {K : CodeMeaning} {T : Trial} {bs : List ℕ} (c : ByModel K T bs) → step_in bs ≡ model c.count c.reps
model_is c = ap step_in c.bytes ∙ model_reads c.count c.reps

-- three bytes and more are their entries and the rest
three : (bs : List ℕ) → 3 ≤ length bs → bs ≡ byte bs 0 ∷ byte bs 1 ∷ byte bs 2 ∷ drop 3 bs
three (a ∷ b ∷ c ∷ more) e = refl
three _ e = absurd (omega arith)

-- what is read as a rule step
pub read_rule :
    (bs : List ℕ) (x : Step) → step_in bs ≡ rule x →
    (bs
    ≡ 83 ∷ 84 ∷ byte bs 2 ∷ byte bs 3 ∷ byte bs 4 ∷ byte bs 5 ∷ byte bs 6 ∷ byte bs 7 ∷ byte bs 8 ∷ [])
    × (step_of bs ≡ x)
read_rule bs x e = go (whole 9 83 84 bs) (leb 3 (length bs) && marked 77 68 bs) refl e
  where
    go :
        (b c : Bool) → whole 9 83 84 bs ≡ b →
        cond b (rule (step_of bs)) (cond c (model (byte bs 2) (drop 3 bs)) other) ≡ rule x →
        (bs
        ≡ 83 ∷ 84 ∷ byte bs 2 ∷ byte bs 3 ∷ byte bs 4 ∷ byte bs 5 ∷ byte bs 6 ∷ byte bs 7 ∷ byte bs 8 ∷ [])
        × (step_of bs ≡ x)
    go true c q e = (spelt 7 83 84 bs q, cc)
    go false true q e = absurd cc
    go false false q e = absurd cc

-- what is read as a model
pub read_model :
    (bs : List ℕ) (n : ℕ) (rs : List ℕ) → step_in bs ≡ model n rs → bs ≡ 77 ∷ 68 ∷ n ∷ rs
read_model bs n rs e = go (whole 9 83 84 bs) (leb 3 (length bs) && marked 77 68 bs) refl e
  where
    go :
        (b c : Bool) → (leb 3 (length bs) && marked 77 68 bs) ≡ c →
        cond b (rule (step_of bs)) (cond c (model (byte bs 2) (drop 3 bs)) other) ≡ model n rs →
        bs ≡ 77 ∷ 68 ∷ n ∷ rs
    go true c q e = absurd cc
    go false true q e =
        let s = and_parts (leb 3 (length bs)) (marked 77 68 bs) q in
        let m = and_parts (eqb (byte bs 0) 77) (eqb (byte bs 1) 68) s.1 in
        let en : byte bs 2 ≡ n = cc in
        let er : drop 3 bs ≡ rs = cc in
        cc (three bs (leb-true _ _ s.0), eqb-true (byte bs 0) 77 m.0, eqb-true (byte bs 1) 68 m.1)
    go false false q e = absurd cc
