-- Operations: their kinds, their numbers, and what each field may be.
-- Rests on the code's two plain types, Kind and Operation.
use Rattle.std.specs.Prelude.{◌≡◌, ℕ, ◌+◌, ◌*◌, ◌/◌, ◌%◌, ◌^◌, ◌<◌, ◌≤◌, Bool, true, cond, ◌&&◌, ◌||◌, ◌⊎◌, Some, None, Option, ◌==◌, nat_le, nat_lt}
use Rattle.trace.specs.declared.operation.Kind.{Kind}
use Rattle.trace.specs.declared.operation.Kind.TheVariants.{Read, Write}
use Rattle.trace.specs.declared.operation.Operation.{Operation}

-- the number of a kind: a read is 1, a write is 2
abbrev pub kind_number : Kind → ℕ
kind_number Read = 1
kind_number Write = 2

-- the kind of a number, where it is one
abbrev pub kind_of : ℕ → Option Kind
kind_of n = cond (n == 1) (Some Read) (cond (n == 2) (Some Write) None)

-- what stands in a place of a table that is not used: a read of no variable
abbrev pub unused : Operation
unused = record { kind = Read; variable = 0; source = 0; value = 0 }

-- the operation is a read
abbrev pub is_read : Operation → Bool
is_read o = kind_number o.kind == 1

-- the operation is a write
abbrev pub is_write : Operation → Bool
is_write o = kind_number o.kind == 2

-- the number of the operation at position q of processor p, both counted from 1
abbrev pub number : ℕ → ℕ → ℕ
number p q = 100 * p + q

-- the processor and the position that an operation's number names
abbrev pub processor_of : ℕ → ℕ
processor_of i = i / 100

abbrev pub position_of : ℕ → ℕ
position_of i = i % 100

-- how many operations a trace may have, over all processors together
abbrev pub capacity : ℕ
capacity = 64

-- x is from low to high
abbrev pub Within : ℕ → ℕ → ℕ → Type 0
Within low high x = (low ≤ x) × (x ≤ high)

-- the test of it
abbrev pub within : ℕ → ℕ → ℕ → Bool
within low high x = nat_le low x && nat_le x high

-- what a read may name as its source: 0, or a position of one of the processors, whether or not an operation is there
abbrev pub Nameable : ℕ → ℕ → Type 0
Nameable processors s = (s ≡ 0) ⊎ ((p : ℕ) × (q : ℕ) × Within 1 processors p × Within 1 capacity q × (s ≡ number p q))

-- the test that a number names such a position
abbrev pub is_position : ℕ → ℕ → Bool
is_position processors i = within 1 processors (processor_of i) && within 1 capacity (position_of i)

-- the test of what a source may be, by the number of the operation's kind
abbrev pub source_fits : ℕ → ℕ → ℕ → Bool
source_fits processors k s = s == 0 || (k == 1 && is_position processors s)

-- an operation's fields are in range, in a trace of that many processors and variables
pub record Fitting (processors variables : ℕ) (o : Operation) : Type 0 where
  pub variable : Within 1 variables o.variable
  pub reads : is_read o ≡ true → Nameable processors o.source
  pub writes : is_write o ≡ true → o.source ≡ 0
  pub value : o.value < 2 ^ 32

-- the test of it
abbrev pub fitting : ℕ → ℕ → Operation → Bool
fitting processors variables o =
    within 1 variables o.variable && (source_fits processors (kind_number o.kind) o.source && nat_lt o.value (2 ^ 32))
