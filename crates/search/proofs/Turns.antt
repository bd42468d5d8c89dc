-- The search's turns, over lists of ranks: one more is placed, a view ends, candidates are tried.
use Rattle.std.proofs.Common.{◌≡◌, ℕ, ◌<◌, Bool, true, false, cond, not, ◌&&◌, ◌||◌, eqb, ◌⊎◌, List, [], ◌∷◌, ◌++◌, length, get_or, set, replicate, sym, refl, ap, ◌∙◌, subst, ap₂, inl, inr, ⊎_elim, arith}
use Rattle.std.proofs.lemmas.List.{append-nil, append_assoc, get_or-replicate, get_or-set_same, get_or-set_other, set-set, set-get_or}
use Rattle.std.proofs.lemmas.Bool.{cases_order, cases_Bool, cases_eq, true≢false, false≢true, eqb-true, eq-eqb, ne_eqb, or_cases, and_from, and_left, and_right, cond-true, cond-false}
use Rattle.trace.specs.declared.operation.Kind.TheVariants.{Read, Write}
use Rattle.trace.specs.Operations.{kind_number, is_write}
use Rattle.opset.specs.declared.OpSet.{OpSet}
use Rattle.opset.specs.Sets.{has, Empty}
use Rattle.search.specs.declared.tables.Tables.{Tables}
use Rattle.search.specs.Filling.{operation_of}
use Rattle.search.specs.Steps.{is_in, number_of, writes, last_from, Reads, asks_more, Placeable, GoesOn, Full, FillsAll, Completes, NotAfter, Foremost, Stuck, Start, Clear}
use Rattle.search.specs.Views.{Noted}
use Rattle.search.proofs.Lists.{eqb_comm, in_push}

-- ---- tests

-- what is left, after one more
left_over : (v m e : Bool) → ((v && not m) && not e) ≡ (v && not (m || e))
left_over true true e = refl
left_over true false e = refl
left_over false m e = refl

is_left : (v m : Bool) → (v && not m) ≡ true → (v ≡ true) × (m ≡ false)
is_left true true e = absurd (false≢true e)
is_left true false e = (refl, refl)
is_left false m e = absurd (false≢true e)

placed_all : (v m : Bool) → (v && not m) ≡ false → v ≡ true → m ≡ true
placed_all true true e f = refl
placed_all true false e f = sym e
placed_all false m e f = absurd (false≢true f)

still_left : (v m : Bool) → v ≡ true → m ≡ false → (v && not m) ≡ true
still_left v m p q = rw (p, q) refl

all_left : (v : Bool) → v ≡ (v && not false)
all_left true = refl
all_left false = refl

-- ---- a list and one more rank

last_push : (tables : Tables) (v i last : ℕ) (s : List ℕ) → last_from tables v last (s ++ i ∷ []) ≡ cond (writes tables v i) (number_of tables i) (last_from tables v last s)
last_push tables v i last [] = refl
last_push tables v i last (x ∷ s) = last_push tables v i (cond (writes tables v x) (number_of tables x) last) s

pub start_none : (tables : Tables) (view : OpSet) → Start tables view [] view (replicate 17 0)
start_none tables view = record { left = λ i. all_left (has view i); last = λ v l. get_or-replicate 17 v 0 0 l; inside = λ i e. absurd (false≢true e) }

module _ (tables : Tables) (view : OpSet) (s : List ℕ) (rest : OpSet) (latest : List ℕ) (start : Start tables view s rest latest) where
  pub held_left : (i : ℕ) → has rest i ≡ true → has view i ≡ true
  held_left i h = (is_left (has view i) (is_in i s) (sym (start.left i) ∙ h)).0

  pub start_more : (i : ℕ) (rest' : OpSet) (next : List ℕ) → has rest i ≡ true → ((k : ℕ) → has rest' k ≡ (has rest k && not (eqb k i))) → ((v : ℕ) → v < 17 → get_or next v 0 ≡ cond (writes tables v i) (number_of tables i) (get_or latest v 0)) → Start tables view (s ++ i ∷ []) rest' next
  start_more i rest' next here h n =
      record {
        left = λ k.
            h k ∙ ap₂ (λ a b. a && not b) (start.left k) (eqb_comm k i) ∙ left_over (has view k) (is_in k s) (eqb i k)
            ∙ ap (λ b. has view k && not b) (sym (in_push k i s));
        last = λ v l. n v l ∙ ap (λ o. cond (writes tables v i) (number_of tables i) o) (start.last v l) ∙ sym (last_push tables v i 0 s);
        inside = λ k e. ⊎_elim {C = has view k ≡ true} (start.inside k) (λ same. subst (λ x. has view x ≡ true) (eqb-true i k same) (held_left i here)) (or_cases (is_in k s) (eqb i k) (sym (in_push k i s) ∙ e));
      }

-- the last writes, once a rank is placed too
module _ (tables : Tables) (i : ℕ) (latest : List ℕ) (long : length latest ≡ 17) where
  pub noted_write : (number : ℕ) → (operation_of tables.operations i).kind ≡ Write → number ≡ number_of tables i → Noted tables i latest (get_or latest (operation_of tables.operations i).variable 0) (set latest (operation_of tables.operations i).variable number)
  unfolding writes
  noted_write number write is =
      let w = (operation_of tables.operations i).variable in
      let kind : is_write (operation_of tables.operations i) ≡ true = ap (λ k. eqb (kind_number k) 2) write in
      record {
        each = λ v l.
            ⊎_elim
            (λ e.
            ap (λ x. get_or (set latest w number) x 0) e ∙ get_or-set_same latest w number 0 (omega (arith, tables.small i)) ∙ is
            ∙ sym (cond-true _ _ _ (and_from _ _ kind (eq-eqb w v (sym e)))))
            (λ ne. get_or-set_other latest w v number 0 ne ∙ sym (cond-false _ _ _ (and_right _ _ (ne_eqb w v (λ e. ne (sym e))))))
            (cases_eq v w);
        back = set-set latest w number (get_or latest w 0) ∙ set-get_or latest w 0;
      }

  pub noted_read : (operation_of tables.operations i).kind ≡ Read → Noted tables i latest (get_or latest (operation_of tables.operations i).variable 0) latest
  unfolding writes
  noted_read read =
      record {
        each = λ v l. sym (cond-false _ _ _ (and_left _ _ (ap (λ k. eqb (kind_number k) 2) read)));
        back = set-get_or latest (operation_of tables.operations i).variable 0;
      }

-- ---- candidates

-- every rank that is left and no more a candidate leads nowhere
pub record Tried (tables : Tables) (needs : ℕ → ℕ → Bool) (view : OpSet) (s : List ℕ) (later : List OpSet) (rest candidates : OpSet) : Type 0 where
  pub among : (k : ℕ) → has candidates k ≡ true → has rest k ≡ true
  pub stuck : (k : ℕ) → has rest k ≡ true → has candidates k ≡ false → (u : List ℕ) (others : List (List ℕ)) → Completes tables needs view s later (k ∷ u) others → ⊥

pub tried_none : (tables : Tables) (needs : ℕ → ℕ → Bool) (view : OpSet) (s : List ℕ) (later : List OpSet) (rest : OpSet) → Tried tables needs view s later rest rest
tried_none tables needs view s later rest = record { among = λ k h. h; stuck = λ k h no_more u others w. true≢false (sym h ∙ no_more) }

-- what is no candidate any more is the one that was taken, or was none before
was_off : (candidates candidates' : OpSet) (i : ℕ) → ((k : ℕ) → has candidates' k ≡ (has candidates k && not (eqb k i))) → (k : ℕ) → has candidates' k ≡ false → (k ≡ i) ⊎ (has candidates k ≡ false)
was_off candidates candidates' i h k off =
    ⊎_elim {C = (k ≡ i) ⊎ (has candidates k ≡ false)} (λ same. inl (eqb-true k i same))
    (λ apart. inr (⊎_elim {C = has candidates k ≡ false} (λ c. absurd (true≢false (sym (still_left (has candidates k) (eqb k i) c apart) ∙ sym (h k) ∙ off))) (λ c. c) (cases_Bool (has candidates k))))
    (cases_Bool (eqb k i))

pub tried_more : {tables : Tables} {needs : ℕ → ℕ → Bool} {view : OpSet} {s : List ℕ} {later : List OpSet} {rest candidates : OpSet} (candidates' : OpSet) (i : ℕ) → Tried tables needs view s later rest candidates → ((k : ℕ) → has candidates' k ≡ (has candidates k && not (eqb k i))) → ((u : List ℕ) (others : List (List ℕ)) → Completes tables needs view s later (i ∷ u) others → ⊥) → Tried tables needs view s later rest candidates'
tried_more {tables} {needs} {view} {s} {later} {rest} {candidates} candidates' i tried h none =
    record {
      among = λ k e. tried.among k (is_left (has candidates k) (eqb k i) (sym (h k) ∙ e)).0;
      stuck = λ k r e u others w.
          ⊎_elim {C = ⊥}
          (λ same. none u others (subst (λ x. Completes tables needs view s later (x ∷ u) others) same w))
          (λ off. tried.stuck k r off u others w)
          (was_off candidates candidates' i h k e);
    }

module _ (tables : Tables) (needs : ℕ → ℕ → Bool) (view : OpSet) (s : List ℕ) where
  pub completes_rest : (later : List OpSet) (i : ℕ) (u : List ℕ) (others : List (List ℕ)) → Completes tables needs view s later (i ∷ u) others → Completes tables needs view (s ++ i ∷ []) later u others
  completes_rest later i u others w =
      record {
        goes = w.goes.1;
        full = subst (Full view) (sym (append_assoc s (i ∷ []) u)) w.full;
        rest = subst (λ o. FillsAll tables (asks_more tables needs o) later others) (sym (append_assoc s (i ∷ []) u)) w.rest;
      }

  completes_more : (later : List OpSet) (i : ℕ) (u : List ℕ) (others : List (List ℕ)) → Placeable tables needs view s i → Completes tables needs view (s ++ i ∷ []) later u others → Completes tables needs view s later (i ∷ u) others
  completes_more later i u others p w =
      record {
        goes = (p, w.goes);
        full = subst (Full view) (append_assoc s (i ∷ []) u) w.full;
        rest = subst (λ o. FillsAll tables (asks_more tables needs o) later others) (append_assoc s (i ∷ []) u) w.rest;
      }

module _ (tables : Tables) (needs : ℕ → ℕ → Bool) (view : OpSet) (s : List ℕ) (rest : OpSet) (latest : List ℕ) (start : Start tables view s rest latest) where
  -- the test of a candidate tells whether it is placeable
  pub placeable_clear : (i : ℕ) (before : OpSet) → has rest i ≡ true → (operation_of tables.operations i).variable < 17 → ((j : ℕ) → has before j ≡ needs i j) → Clear (operation_of tables.operations i) before rest latest → Placeable tables needs view s i
  placeable_clear i before h l n c =
      let here = is_left (has view i) (is_in i s) (sym (start.left i) ∙ h) in
      record {
        held = here.0;
        new = here.1;
        after = λ j v b. ⊎_elim {C = is_in j s ≡ true} (λ e. e) (λ e. absurd (c.after j (start.left j ∙ still_left (has view j) (is_in j s) v e) (n j ∙ b))) (cases_Bool (is_in j s));
        reads = subst (Reads (operation_of tables.operations i)) (start.last (operation_of tables.operations i).variable l) c.reads;
      }

  pub clear_placeable : (i : ℕ) (before : OpSet) → (operation_of tables.operations i).variable < 17 → ((j : ℕ) → has before j ≡ needs i j) → Placeable tables needs view s i → Clear (operation_of tables.operations i) before rest latest
  clear_placeable i before l n p =
      record {
        after = λ j r b. let there = is_left (has view j) (is_in j s) (sym (start.left j) ∙ r) in true≢false (sym (p.after j there.0 (sym (n j) ∙ b)) ∙ there.1);
        reads = subst (Reads (operation_of tables.operations i)) (sym (start.last (operation_of tables.operations i).variable l)) p.reads;
      }

  -- what is placeable is left
  left_of : (i : ℕ) → Placeable tables needs view s i → has rest i ≡ true
  left_of i p = start.left i ∙ still_left (has view i) (is_in i s) p.held p.new

  -- with something left a view is not at its end
  not_full : (k : ℕ) → has rest k ≡ true → Full view (s ++ []) → ⊥
  not_full k h f =
      let there = is_left (has view k) (is_in k s) (sym (start.left k) ∙ h) in
      true≢false (sym (f k there.0) ∙ ap (is_in k) (append-nil s) ∙ there.1)

  -- ---- the end of a view

  module _ (none : Empty rest) where
    full_now : Full view (s ++ [])
    full_now i v = ap (is_in i) (append-nil s) ∙ placed_all (has view i) (is_in i s) (sym (start.left i) ∙ none i) v

    -- nothing more can be placed
    no_more : (k : ℕ) (u : List ℕ) → GoesOn tables needs view s (k ∷ u) → ⊥
    no_more k u g = true≢false (sym (left_of k g.0) ∙ none k)

    pub foremost_done : Foremost tables needs view s [] [] []
    foremost_done = record { completes = record { goes = tt; full = full_now; rest = tt }; first = first }
      where
        first : (u : List ℕ) (others : List (List ℕ)) → Completes tables needs view s [] u others → NotAfter ([] ∷ []) (u ∷ others)
        first [] [] w = inr (refl, tt)
        first [] (o ∷ others) w = absurd w.rest
        first (k ∷ u) others w = absurd (no_more k u w.goes)

    module _ (v : OpSet) (later : List OpSet) where
      under : (others : List (List ℕ)) → Completes tables needs view s (v ∷ later) [] others → FillsAll tables (asks_more tables needs s) (v ∷ later) others
      under others w = subst (λ o. FillsAll tables (asks_more tables needs o) (v ∷ later) others) (append-nil s) w.rest

      pub foremost_next : (t : List ℕ) (orders : List (List ℕ)) → Foremost tables (asks_more tables needs s) v [] later t orders → Foremost tables needs view s (v ∷ later) [] (t ∷ orders)
      foremost_next t orders h =
          record {
            completes =
                record {
                  goes = tt;
                  full = full_now;
                  rest = subst (λ o. FillsAll tables (asks_more tables needs o) (v ∷ later) (t ∷ orders)) (sym (append-nil s)) (h.completes.goes, h.completes.full, h.completes.rest);
                };
            first = first;
          }
        where
          first : (u : List ℕ) (others : List (List ℕ)) → Completes tables needs view s (v ∷ later) u others → NotAfter ([] ∷ t ∷ orders) (u ∷ others)
          first (k ∷ u) others w = absurd (no_more k u w.goes)
          first [] [] w = absurd (under [] w)
          first [] (o ∷ others) w = let l = under (o ∷ others) w in inr (refl, h.first o others (record { goes = l.0; full = l.1; rest = l.2 }))

      pub stuck_next : Stuck tables (asks_more tables needs s) v [] later → Stuck tables needs view s (v ∷ later)
      stuck_next h (k ∷ u) others w = no_more k u w.goes
      stuck_next h [] [] w = under [] w
      stuck_next h [] (o ∷ others) w = let l = under (o ∷ others) w in h o others (record { goes = l.0; full = l.1; rest = l.2 })

  -- ---- the candidates

  -- the lowest candidate led to an end: that is the first
  pub foremost_more : (later : List OpSet) (candidates : OpSet) (i : ℕ) (t : List ℕ) (orders : List (List ℕ)) → Tried tables needs view s later rest candidates → has candidates i ≡ true → ((k : ℕ) → k < i → has candidates k ≡ false) → Placeable tables needs view s i → Foremost tables needs view (s ++ i ∷ []) later t orders → Foremost tables needs view s later (i ∷ t) orders
  foremost_more later candidates i t orders tried h low p foremost = record { completes = completes_more tables needs view s later i t orders p foremost.completes; first = first }
    where
      step : (u : List ℕ) (others : List (List ℕ)) (k : ℕ) → i ≡ k → NotAfter (t ∷ orders) (u ∷ others) → NotAfter ((i ∷ t) ∷ orders) ((k ∷ u) ∷ others)
      step u others k e (inl l) = inl (inr (e, l))
      step u others k e (inr r) = inr (ap₂ (λ (x : ℕ) (xs : List ℕ). x ∷ xs) e r.0, r.1)

      at : (k : ℕ) (u : List ℕ) (others : List (List ℕ)) → Completes tables needs view s later (k ∷ u) others → (k ≡ i) ⊎ ((k < i) ⊎ (i < k)) → NotAfter ((i ∷ t) ∷ orders) ((k ∷ u) ∷ others)
      at k u others w (inl e) = step u others k (sym e) (foremost.first u others (completes_rest tables needs view s later i u others (subst (λ x. Completes tables needs view s later (x ∷ u) others) e w)))
      at k u others w (inr (inl l)) = absurd (tried.stuck k (left_of k w.goes.0) (low k l) u others w)
      at k u others w (inr (inr l)) = inl (inl l)

      first : (u : List ℕ) (others : List (List ℕ)) → Completes tables needs view s later u others → NotAfter ((i ∷ t) ∷ orders) (u ∷ others)
      first [] others w = absurd (not_full i (tried.among i h) w.full)
      first (k ∷ u) others w = at k u others w (cases_order k i)

  -- no candidate is left
  pub stuck_all : (later : List OpSet) (candidates : OpSet) → Tried tables needs view s later rest candidates → Empty candidates → (Empty rest → ⊥) → Stuck tables needs view s later
  stuck_all later candidates tried no_candidate some [] others w =
      some (λ k. ⊎_elim {C = has rest k ≡ false} (λ e. absurd (not_full k e w.full)) (λ e. e) (cases_Bool (has rest k)))
  stuck_all later candidates tried no_candidate some (k ∷ u) others w = tried.stuck k (left_of k w.goes.0) (no_candidate k) u others w
