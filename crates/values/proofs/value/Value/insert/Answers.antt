use Rattle.std.proofs.Common.{sym, refl}
use Rattle.values.proofs.Inserting.{found, unfound}
use Rattle.values.proofs.value.Value.insert.Goals as goal

pub returns-in-Some-clause-inserted : goal.returns-in-Some-clause-inserted
returns-in-Some-clause-inserted c =
    let f = found c.args.self.now.slots.now c.args.t c.args.self.now.len c.args.self.now.within c.in-Some.place (sym c.in-Some.ensures) in
    (f.0, f.1, f.2, refl, refl)

pub returns-in_err-push-in-None-clause-inserted : goal.returns-in_err-push-in-None-clause-inserted
returns-in_err-push-in-None-clause-inserted c =
    let f = unfound c.args.self.now.slots.now c.args.t c.args.self.now.len c.args.self.now.within (sym c.in-None.ensures) in
    let p = c.in_err-push-in-None.ensures.pushed in
    rw c.from_residual.ensures (p.0, f, p.1, p.2)

pub returns-in_ok-push-in-None-clause-inserted : goal.returns-in_ok-push-in-None-clause-inserted
returns-in_ok-push-in-None-clause-inserted c =
    let f = unfound c.args.self.now.slots.now c.args.t c.args.self.now.len c.args.self.now.within (sym c.in-None.ensures) in
    let p = c.in_ok-push-in-None.ensures.pushed in
    (p.0, p.1, f, p.2, p.3)
