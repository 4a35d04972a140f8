-- The operations of terms, the forms of facts and the rules, and the numbers that stand for them in records.
use Rattle.std.specs.Prelude.{ℕ, cond, Some, None, Ok, Err, Option, Result, ◌==◌}
use Rattle.records.specs.declared.refusal.Refusal.{Refusal}
use Rattle.records.specs.declared.refusal.Refusal.TheVariants.{NoRule}
use Rattle.records.specs.declared.kinds.Unnamed.{Unnamed}
use Rattle.records.specs.declared.kinds.Operation.{Operation}
use Rattle.records.specs.declared.kinds.Operation.TheVariants as operation
use Rattle.records.specs.declared.kinds.Form.{Form}
use Rattle.records.specs.declared.kinds.Form.TheVariants as form
use Rattle.records.specs.declared.rule.Rule.{Rule}
use Rattle.records.specs.declared.rule.Rule.TheVariants.{
  InterUp,
  InterDown,
  UnionUp,
  UnionDown,
  DiffUp,
  DiffDown,
  SingleUp,
  SingleDown,
  EmptyUnsat,
  SetDiseq,
  EqUnsat,
  TranspUp,
  TranspDown,
  JoinUp,
  JoinDown,
  ProdUp,
  ProdDown,
  ClosUpOne,
  ClosUpTwo,
  ClosDown,
  Sym,
  SwapName,
  SwapTerm,
  LabelUnsat,
  LabelSame,
}

-- the number of each operation
abbrev pub operation_number : Operation → ℕ
operation_number operation.Variable = 0
operation_number operation.Empty = 1
operation_number operation.Single = 2
operation_number operation.Union = 3
operation_number operation.Intersection = 4
operation_number operation.Difference = 5
operation_number operation.Transpose = 6
operation_number operation.Product = 7
operation_number operation.Join = 8
operation_number operation.Closure = 9

-- the operation that a number stands for
abbrev pub operation_in : ℕ → Result Operation Unnamed
operation_in n =
    cond (n == 0) (Ok operation.Variable)
    (cond (n == 1) (Ok operation.Empty)
    (cond (n == 2) (Ok operation.Single)
    (cond (n == 3) (Ok operation.Union)
    (cond (n == 4) (Ok operation.Intersection)
    (cond (n == 5) (Ok operation.Difference)
    (cond (n == 6) (Ok operation.Transpose)
    (cond (n == 7) (Ok operation.Product)
    (cond (n == 8) (Ok operation.Join)
    (cond (n == 9) (Ok operation.Closure) (Err (record { 0 = n })))))))))))

-- the number of each form
abbrev pub form_number : Form → ℕ
form_number form.Member = 1
form_number form.EqualNames = 2
form_number form.EqualTerms = 3

-- the form that a number stands for
abbrev pub form_in : ℕ → Result Form Unnamed
form_in n =
    cond (n == 1) (Ok form.Member)
    (cond (n == 2) (Ok form.EqualNames)
    (cond (n == 3) (Ok form.EqualTerms) (Err (record { 0 = n }))))

-- the number of each rule
abbrev pub rule_number : Rule → ℕ
rule_number InterUp = 1
rule_number InterDown = 2
rule_number UnionUp = 3
rule_number UnionDown = 4
rule_number DiffUp = 5
rule_number DiffDown = 6
rule_number SingleUp = 7
rule_number SingleDown = 8
rule_number EmptyUnsat = 9
rule_number SetDiseq = 10
rule_number EqUnsat = 11
rule_number TranspUp = 12
rule_number TranspDown = 13
rule_number JoinUp = 14
rule_number JoinDown = 15
rule_number ProdUp = 16
rule_number ProdDown = 17
rule_number ClosUpOne = 18
rule_number ClosUpTwo = 19
rule_number ClosDown = 20
rule_number Sym = 21
rule_number SwapName = 22
rule_number SwapTerm = 23
rule_number LabelUnsat = 24
rule_number LabelSame = 25

-- the rule with this number, if there is one
abbrev pub rule_of : ℕ → Option Rule
rule_of b =
    cond (b == 1) (Some InterUp)
    (cond (b == 2) (Some InterDown)
    (cond (b == 3) (Some UnionUp)
    (cond (b == 4) (Some UnionDown)
    (cond (b == 5) (Some DiffUp)
    (cond (b == 6) (Some DiffDown)
    (cond (b == 7) (Some SingleUp)
    (cond (b == 8) (Some SingleDown)
    (cond (b == 9) (Some EmptyUnsat)
    (cond (b == 10) (Some SetDiseq)
    (cond (b == 11) (Some EqUnsat)
    (cond (b == 12) (Some TranspUp)
    (cond (b == 13) (Some TranspDown)
    (cond (b == 14) (Some JoinUp)
    (cond (b == 15) (Some JoinDown)
    (cond (b == 16) (Some ProdUp)
    (cond (b == 17) (Some ProdDown)
    (cond (b == 18) (Some ClosUpOne)
    (cond (b == 19) (Some ClosUpTwo)
    (cond (b == 20) (Some ClosDown)
    (cond (b == 21) (Some Sym)
    (cond (b == 22) (Some SwapName)
    (cond (b == 23) (Some SwapTerm)
    (cond (b == 24) (Some LabelUnsat)
    (cond (b == 25) (Some LabelSame) None))))))))))))))))))))))))

-- what reading a rule's number gives: the rule, or the refusal that names the number
abbrev pub rule_told : ℕ → Option Rule → Result Rule Refusal
rule_told n None = Err (NoRule n)
rule_told n (Some r) = Ok r

abbrev pub rule_in : ℕ → Result Rule Refusal
rule_in n = rule_told n (rule_of n)
