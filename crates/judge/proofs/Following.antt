-- Answers that are right one by one, each after the calls before it.
use Rattle.std.proofs.Common.{◌≡◌, ℕ, zero, suc, List, [], ◌∷◌, ◌++◌, length, take, Some, sym, refl, ap, subst}
use Rattle.std.specs.List.{slice_get}
use Rattle.std.proofs.lemmas.List.{append-nil, append_assoc}
use Rattle.models.specs.Meaning.{Meaning}
use Rattle.judge.specs.declared.calls.Call.{Call}
use Rattle.judge.specs.declared.calls.Played.{Played}
use Rattle.judge.specs.Law.{Right}
use Rattle.judge.proofs.Places.{none_some, same_some}

-- each answer is right after the earlier calls and those before it
abbrev pub Follows : Meaning → List Call → List Call → List Played → Type 0
Follows m earlier [] [] = Unit {0}
Follows m earlier [] (a ∷ answers) = ⊥
Follows m earlier (c ∷ calls) [] = ⊥
Follows m earlier (c ∷ calls) (a ∷ answers) = Right m earlier c a × Follows m (earlier ++ c ∷ []) calls answers

pub follows_more : (m : Meaning) (earlier calls : List Call) (answers : List Played) (c : Call) (a : Played)
    → Follows m earlier calls answers → Right m (earlier ++ calls) c a → Follows m earlier (calls ++ c ∷ []) (answers ++ a ∷ [])
follows_more m e [] [] c a f r = (subst (λ l. Right m l c a) (append-nil e) r, tt)
follows_more m e [] (y ∷ ys) c a f r = absurd f
follows_more m e (x ∷ xs) [] c a f r = absurd f
follows_more m e (x ∷ xs) (y ∷ ys) c a f r =
    (f.0, follows_more m (e ++ x ∷ []) xs ys c a f.1 (subst (λ l. Right m l c a) (sym (append_assoc e (x ∷ []) xs)) r))

pub follows_length : (m : Meaning) (earlier calls : List Call) (answers : List Played) → Follows m earlier calls answers → length answers ≡ length calls
follows_length m e [] [] f = refl
follows_length m e [] (y ∷ ys) f = absurd f
follows_length m e (x ∷ xs) [] f = absurd f
follows_length m e (x ∷ xs) (y ∷ ys) f = ap suc (follows_length m (e ++ x ∷ []) xs ys f.1)

pub follows_at : (m : Meaning) (earlier calls : List Call) (answers : List Played) → Follows m earlier calls answers
    → (n : ℕ) (c : Call) (a : Played) → slice_get calls n ≡ Some c → slice_get answers n ≡ Some a → Right m (earlier ++ take n calls) c a
follows_at m e [] [] f n c a p q = absurd (none_some c p)
follows_at m e [] (y ∷ ys) f n c a p q = absurd f
follows_at m e (x ∷ xs) [] f n c a p q = absurd f
follows_at m e (x ∷ xs) (y ∷ ys) f zero c a p q =
    subst (λ l. Right m l c a) (sym (append-nil e)) (subst (λ b. Right m e c b) (same_some y a q) (subst (λ d. Right m e d y) (same_some x c p) f.0))
follows_at m e (x ∷ xs) (y ∷ ys) f (suc n) c a p q =
    subst (λ l. Right m l c a) (append_assoc e (x ∷ []) (take n xs)) (follows_at m (e ++ x ∷ []) xs ys f.1 n c a p q)
