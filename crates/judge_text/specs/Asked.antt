-- The calls that are played for a file, and the text of their answers. Rests on the lines, and on calls as values.
use Rattle.std.specs.Prelude.{◌≡◌, ℕ, suc, cond, List, [], ◌∷◌, ◌++◌, length, take, vec_items, codes, ◌==◌}
use Rattle.std.specs.Global.{Vec}
use Rattle.std.specs.List.{flat_map}
use Rattle.trace_file.specs.declared.changes.Change.TheVariants.{Load}
use Rattle.judge.specs.declared.calls.Call.{Call}
use Rattle.judge.specs.declared.calls.Call.TheVariants as call
use Rattle.judge.specs.declared.calls.Played.{Played}
use Rattle.judge_text.specs.Lines.{refused_line, view_line, illegal_text}

-- the call asks for view k, with 64 slots
pub record AsksView (k : ℕ) (c : Call) : Type 0 where
  pub slots : Vec ℕ
  pub is : c ≡ call.View k slots
  pub room : length (vec_items slots) ≡ 64

-- the calls ask for the views from view k on
abbrev pub AskViews : ℕ → List Call → Type 0
AskViews k [] = Unit {0}
AskViews k (c ∷ calls) = AsksView k c × AskViews (suc k) calls

-- the calls load the file, judge it, and ask for this many views
pub record Asked (file : List ℕ) (n : ℕ) (calls : List Call) : Type 0 where
  pub bytes : Vec ℕ
  pub loads : vec_items bytes ≡ file
  pub views : List Call
  pub are : calls ≡ call.Change (Load bytes) ∷ call.Judge ∷ views
  pub count : length views ≡ n
  pub each : AskViews 1 views

-- what is printed of a call that was answered with these two numbers: the line of a view that was shown, and nothing else
abbrev pub line_of : Call → ℕ → ℕ → List ℕ
line_of (call.View k slots) refusal value = cond (refusal == 0) (view_line k (take value (vec_items slots))) []
line_of (call.Change c) refusal value = []
line_of call.Judge refusal value = []
line_of (call.Inspect numbers) refusal value = []
line_of (call.Save bytes) refusal value = []

abbrev pub shown_line : Played → List ℕ
shown_line a = line_of a.call a.refusal a.value

-- the text of the answers to load, to judge and to the views
abbrev pub answers_text : List Played → List ℕ
answers_text [] = []
answers_text (load ∷ []) = []
answers_text (load ∷ judge ∷ views) =
    cond (load.refusal == 0)
    (cond (judge.refusal == 0)
    (cond (judge.value == 0) illegal_text (codes "legal\n" ++ flat_map shown_line views))
    (refused_line judge.refusal judge.value))
    (refused_line load.refusal load.value)
