-- How long the parts of a file are, and how its writing goes on part by part.
use Rattle.std.proofs.Common.{◌≡◌, ℕ, ◌+◌, ◌*◌, ◌<◌, ◌≤◌, List, [], ◌∷◌, ◌++◌, length, get_or, take, cond, nat_le, nat_lt, sum_by, sym, refl, ap, ◌∙◌, arith}
use Rattle.std.specs.List.{flat_map}
use Rattle.std.proofs.lemmas.List.{length-append, append_assoc, take_more, flat_map_more, take_all}
use Rattle.std.proofs.lemmas.List.Sums.{sum_by-cons, sum_by-take-le}
use Rattle.std.proofs.lemmas.Bool.{cond-true, lt-ltb, le-leb}
use Rattle.trace.specs.declared.operation.Operation.{Operation}
use Rattle.trace.specs.Traces.{Trace, processor_count, operation_count}
use Rattle.trace_file.specs.Files.{record_bytes, section_bytes, file_of}

pub length_joined : {X : Type 0} (f : X → List ℕ) (xs : List X) → length (flat_map f xs) ≡ sum_by (λ x. length (f x)) xs
length_joined f [] = refl
length_joined f (x ∷ xs) =
    length-append (f x) (flat_map f xs) ∙ ap (λ n. length (f x) + n) (length_joined f xs) ∙ sym (sum_by-cons (λ y. length (f y)) x xs)

pub section_length : (lane : List Operation) → length (section_bytes lane) ≡ 1 + 8 * length lane
section_length [] = refl
section_length (o ∷ lane) =
    let n = section_length lane in
    let m = length-append (record_bytes o) (flat_map record_bytes lane) in
    omega arith

sections_length : (lanes : List (List Operation)) → length (flat_map section_bytes lanes) ≡ length lanes + 8 * sum_by length lanes
sections_length [] = refl
sections_length (l ∷ lanes) =
    let n = sections_length lanes in
    let m = length-append (section_bytes l) (flat_map section_bytes lanes) in
    let k = section_length l in
    let s = sum_by-cons length l lanes in
    omega arith

pub file_length : (t : Trace) → length (file_of t) ≡ 2 + processor_count t + 8 * operation_count t
file_length t = let n = sections_length t.lanes in omega arith

-- a loop that puts f of each element at the end, one after another, before its turn at i
abbrev pub Putting : {X : Type 0} → (X → List ℕ) → List X → List ℕ → ℕ → List ℕ → Type 0
Putting f xs from i list = list ≡ from ++ flat_map f (take i xs)

module _ {X : Type 0} (f : X → List ℕ) (xs : List X) (from : List ℕ) (i : ℕ) (list : List ℕ) (v : Putting f xs from i list) where
  module _ (d : X) (here : i < length xs) where
    one_more : flat_map f (take (i + 1) xs) ≡ flat_map f (take i xs) ++ f (get_or xs i d)
    one_more = ap (flat_map f) (take_more xs i d here) ∙ sym (flat_map_more f [] (take i xs) (get_or xs i d))

    within : (k : ℕ) → length (flat_map f (take k xs)) ≤ length (flat_map f xs)
    within k = omega (arith, length_joined f (take k xs), length_joined f xs, sum_by-take-le (λ x. length (f x)) xs k)

    pub putting_room : length list + length (f (get_or xs i d)) ≤ length from + length (flat_map f xs)
    putting_room =
        omega (
          arith,
          ap length v,
          length-append from (flat_map f (take i xs)),
          ap length one_more,
          length-append (flat_map f (take i xs)) (f (get_or xs i d)),
          within (i + 1),
        )

    pub putting_again : (longer : List ℕ) → longer ≡ list ++ f (get_or xs i d) → Putting f xs from (i + 1) longer
    putting_again longer e =
        e
        ∙ ap (λ l. l ++ f (get_or xs i d)) v
        ∙ append_assoc from (flat_map f (take i xs)) (f (get_or xs i d))
        ∙ ap (λ l. from ++ l) (sym one_more)

  pub putting_ends : length xs ≤ i → list ≡ from ++ flat_map f xs
  putting_ends h = v ∙ ap (λ ys. from ++ flat_map f ys) (take_all i xs h)

-- a list that is put at the end of another, where there is room
pub put_in : (size : ℕ) (list more new : List ℕ) → length list + length more ≤ size → new ≡ cond (nat_le (length list + length more) size) (list ++ more) list → new ≡ list ++ more
put_in size list more new room e = e ∙ cond-true _ _ _ (le-leb _ size room)

pub put_one : (size : ℕ) (list : List ℕ) (x : ℕ) (new : List ℕ) → length list < size → new ≡ cond (nat_lt (length list) size) (list ++ x ∷ []) list → new ≡ list ++ x ∷ []
put_one size list x new room e = e ∙ cond-true _ _ _ (lt-ltb _ size room)
