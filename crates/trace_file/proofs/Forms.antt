-- A record's bytes and its fields: each is had back from the other.
use Rattle.std.proofs.Common.{◌≡◌, ℕ, ◌+◌, ◌*◌, ◌/◌, ◌%◌, ◌^◌, ◌<◌, ◌≤◌, true, List, [], ◌∷◌, ◌++◌, length, get_or, drop, is_some, unwrap_or, sym, refl, ap, ◌∙◌, arith}
use Rattle.trace.specs.declared.operation.Kind.TheVariants.{Read}
use Rattle.trace.specs.declared.operation.Operation.{Operation}
use Rattle.trace.specs.Operations.{kind_of}
use Rattle.trace.proofs.Numbers.{kind_of_number, number_back}
use Rattle.trace_file.specs.Files.{two_bytes, four_bytes, record_bytes}
use Rattle.trace_file.specs.Reading.{kind_field, variable_field, source_field, value_field, record_of}

-- each element is a byte
abbrev pub Bytes : List ℕ → Type 0
Bytes bytes = (k : ℕ) → get_or bytes k 0 < 256

eight : (bytes : List ℕ) → 8 ≤ length bytes → bytes ≡ get_or bytes 0 0 ∷ get_or bytes 1 0 ∷ get_or bytes 2 0 ∷ get_or bytes 3 0 ∷ get_or bytes 4 0 ∷ get_or bytes 5 0 ∷ get_or bytes 6 0 ∷ get_or bytes 7 0 ∷ drop 8 bytes
eight [] l = absurd (omega arith)
eight (a ∷ []) l = absurd (omega arith)
eight (a ∷ b ∷ []) l = absurd (omega arith)
eight (a ∷ b ∷ c ∷ []) l = absurd (omega arith)
eight (a ∷ b ∷ c ∷ d ∷ []) l = absurd (omega arith)
eight (a ∷ b ∷ c ∷ d ∷ e ∷ []) l = absurd (omega arith)
eight (a ∷ b ∷ c ∷ d ∷ e ∷ f ∷ []) l = absurd (omega arith)
eight (a ∷ b ∷ c ∷ d ∷ e ∷ f ∷ g ∷ []) l = absurd (omega arith)
eight (a ∷ b ∷ c ∷ d ∷ e ∷ f ∷ g ∷ h ∷ rest) l = refl

two_back : (a b : ℕ) → a < 256 → b < 256 → a ∷ b ∷ [] ≡ two_bytes (a * 256 + b)
two_back a b p q =
    let e : a ≡ (a * 256 + b) / 256 % 256 = omega arith in
    let f : b ≡ (a * 256 + b) % 256 = omega arith in
    λ i. e i ∷ f i ∷ []

four_back : (a b c d : ℕ) → a < 256 → b < 256 → c < 256 → d < 256 → a ∷ b ∷ c ∷ d ∷ [] ≡ four_bytes (a * 16777216 + b * 65536 + c * 256 + d)
four_back a b c d p q r s =
    let n = a * 16777216 + b * 65536 + c * 256 + d in
    let e : a ≡ (a * 16777216 + b * 65536 + c * 256 + d) / 16777216 % 256 = omega arith in
    let f : b ≡ (a * 16777216 + b * 65536 + c * 256 + d) / 65536 % 256 = omega arith in
    let g : c ≡ (a * 16777216 + b * 65536 + c * 256 + d) / 256 % 256 = omega arith in
    let h : d ≡ (a * 16777216 + b * 65536 + c * 256 + d) % 256 = omega arith in
    λ i. e i ∷ f i ∷ g i ∷ h i ∷ []

-- a record's bytes are those of the operation that its fields give
pub record_form : (bytes : List ℕ) → Bytes bytes → 8 ≤ length bytes → is_some (kind_of (kind_field bytes)) ≡ true → bytes ≡ record_bytes (record_of bytes) ++ drop 8 bytes
record_form bytes small l k =
    let e = sym (number_back (kind_field bytes) Read k) in
    let s = two_back (get_or bytes 2 0) (get_or bytes 3 0) (small 2) (small 3) in
    let x = four_back (get_or bytes 4 0) (get_or bytes 5 0) (get_or bytes 6 0) (get_or bytes 7 0) (small 4) (small 5) (small 6) (small 7) in
    eight bytes l ∙ (λ i. e i ∷ variable_field bytes ∷ ((s i ++ x i) ++ drop 8 bytes))

pub value_fits : (bytes : List ℕ) → Bytes bytes → value_field bytes < 2 ^ 32
value_fits bytes small = omega (arith, small 4, small 5, small 6, small 7)

four_joined : (n a b c r s t u : ℕ) → n ≡ a * 256 + r → a ≡ b * 256 + s → b ≡ c * 256 + t → u ≡ c → u * 16777216 + t * 65536 + s * 256 + r ≡ n
four_joined n a b c r s t u e f g h = omega arith

-- the fields of an operation's record are the operation's
module _ (o : Operation) (rest : List ℕ) where
  pub source_form : o.source < 65536 → source_field (record_bytes o ++ rest) ≡ o.source
  source_form h = omega arith

  pub value_form : o.value < 2 ^ 32 → value_field (record_bytes o ++ rest) ≡ o.value
  value_form h =
      let n = o.value in
      let e : o.value ≡ o.value / 256 * 256 + o.value % 256 = omega arith in
      let f : o.value / 256 ≡ o.value / 65536 * 256 + o.value / 256 % 256 = omega arith in
      let g : o.value / 65536 ≡ o.value / 16777216 * 256 + o.value / 65536 % 256 = omega arith in
      let top : o.value / 16777216 % 256 ≡ o.value / 16777216 = omega arith in
      four_joined n (n / 256) (n / 65536) (n / 16777216) (n % 256) (n / 256 % 256) (n / 65536 % 256) (n / 16777216 % 256) e f g top

  pub operation_form : o.source < 65536 → o.value < 2 ^ 32 → record_of (record_bytes o ++ rest) ≡ o
  operation_form h k =
      let e = ap (λ f. unwrap_or f Read) (kind_of_number o.kind) in
      λ i. record { kind = e i; variable = o.variable; source = source_form h i; value = value_form k i }
