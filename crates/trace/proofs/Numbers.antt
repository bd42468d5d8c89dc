-- A kind and its number.
use Rattle.std.proofs.Common.{◌≡◌, ℕ, true, is_some, Some, None, Option, unwrap_or, Result, Ok, is_ok, sym, refl, ap, arith}
use Rattle.std.specs.Option.{ok_or}
use Rattle.std.proofs.lemmas.Bool.{false≢true}
use Rattle.std.proofs.lemmas.Bool.Decides.{nat_tests}
use Rattle.trace.specs.declared.operation.UnknownKind.{UnknownKind}
use Rattle.trace.specs.declared.operation.Kind.{Kind}
use Rattle.trace.specs.declared.operation.Kind.TheVariants.{Read, Write}
use Rattle.trace.specs.Operations.{kind_number, kind_of}
use Rattle.trace.proofs.Accepting.{value}

pub kind_of_number : (k : Kind) → kind_of (kind_number k) ≡ Some k
kind_of_number Read = refl
kind_of_number Write = refl

pub number_of_kind : (n : ℕ) (k : Kind) → kind_of n ≡ Some k → kind_number k ≡ n
number_of_kind n Read e = grind (arith, nat_tests)
number_of_kind n Write e = grind (arith, nat_tests)

some_value : {A : Type 0} (o : Option A) (d : A) → is_some o ≡ true → o ≡ Some (unwrap_or o d)
some_value None d e = absurd (false≢true e)
some_value (Some x) d e = refl

-- a number that is a kind's is the number of the kind that it gives
pub number_back : (n : ℕ) (d : Kind) → is_some (kind_of n) ≡ true → kind_number (unwrap_or (kind_of n) d) ≡ n
number_back n d e = number_of_kind n (unwrap_or (kind_of n) d) (some_value (kind_of n) d e)

-- a number that is decoded is the kind's that it gives
pub decoded : (o : Option Kind) (unknown : UnknownKind) (k d : Kind) → ◌≡◌ {A = Result Kind UnknownKind} (Ok k) (ok_or o unknown) → k ≡ unwrap_or o d
decoded None unknown k d e = absurd (false≢true (sym (ap is_ok e)))
decoded (Some x) unknown k d e = ap (value d) e
