-- The code of each text stands in the segment of its number.
use Rattle.std.proofs.Common.{◌≡◌, ℕ, zero, suc, ◌+◌, ◌*◌, ◌≤◌, List, [], ◌∷◌, ◌++◌, length, refl, sym, ap, subst, arith, length-append}
use Rattle.std.specs.Prelude.{Option, Some, None, slice_get}
use Rattle.algol_tree.specs.declared.token.Spot.{Spot}
use Rattle.algol_tree.specs.declared.tree.Kind.{Kind}
use Rattle.algol_tree.specs.Plain.{PDecls}
use Rattle.algol_tree.specs.Scopes.{Scopes}
use Rattle.b67_emitter.specs.declared.names.Names.{Names}
use Rattle.algol_paths.specs.Segments.{segment_of}
use Rattle.b67_segment.specs.declared.code.Format.{Format}
use Rattle.b67_segment.specs.declared.code.Segment.{Segment}
use Rattle.b67_segment.specs.Operators.{Placed}
use Rattle.b67_segment.specs.Syllables.{Spells}
use Rattle.b67_templates.specs.Contexts.{yields_of}
use Rattle.b67_templates.specs.Cells.{result_cells_of, variables, actuals_in_block}
use Rattle.b67_templates.specs.Code.{CellsAt, control_pcws}
use Rattle.b67_emit_stmt.specs.declared.draft.Label.{Label}
use Rattle.b67_emit_stmt.specs.Drafts.{DraftAgrees, IsFront, spots_of}
use Rattle.b67_emit_stmt.specs.Places.{Later, Place}
use Rattle.b67_list.proofs.Lists.{each_back, each_front}
use Rattle.b67_list.proofs.Numbers.{some_same}
use Rattle.b67_emit_text.specs.Programs.{AreDue, AreShort, Coded, EndAt, IsDue, LabelTableAt, TextAt, block_of_text, context_of}
use Rattle.b67_emit_text.specs.Codes.{EndingAt, CodeStands, result_couple, result_index, zeros_for}
use Rattle.b67_emit_text.specs.Texts.{StandOnce, Text, text_spots, spot_times}
use Rattle.b67_emit_text.specs.Entries.{label_place_in}
use Rattle.b67_emit_stmt.proofs.Notes.{front_self, front_trans}
use Rattle.b67_emit_text.proofs.Spots.{placed_once}

-- where a text stands
abbrev pub place_of : Scopes → Text → Place
place_of sc t = record { scopes = sc; segment = segment_of sc.blocks (block_of_text sc t); block = block_of_text sc t; yields = yields_of t.result }

-- the code of a text stands in a segment, which is short
abbrev pub TextStands : Scopes → Later → Segment → Text → Type 0
TextStands sc all segment t =
    (ps : List Placed) × Spells ps segment × TextAt sc all.formats all.labels ps t × LabelTableAt all.labels ps t × (6 * length segment.words ≤ 24 * t.tokens + 48)

abbrev pub AllStand : Scopes → Later → List Segment → List Text → Type 0
AllStand sc all [] [] = Unit {0}
AllStand sc all [] (t ∷ ts) = ⊥
AllStand sc all (x ∷ xs) [] = ⊥
AllStand sc all (x ∷ xs) (t ∷ ts) = TextStands sc all x t × AllStand sc all xs ts

pub stand_more : (sc : Scopes) (all : Later) (xs : List Segment) (ts : List Text) (x : Segment) (t : Text) → AllStand sc all xs ts → TextStands sc all x t →
    AllStand sc all (xs ++ x ∷ []) (ts ++ t ∷ [])
stand_more sc all [] [] x t h k = (k, tt)
stand_more sc all [] (u ∷ us) x t h k = absurd h
stand_more sc all (y ∷ ys) [] x t h k = absurd h
stand_more sc all (y ∷ ys) (u ∷ us) x t h k = (h.0, stand_more sc all ys us x t h.1 k)

-- ---- one text

pub zeros_are : (result : Option Kind) (parameters : ℕ) (name : List ℕ) (ds : PDecls) →
    zeros_for (result_index result parameters) ds ≡ length (result_cells_of result name ++ variables ds)
zeros_are None parameters name ds = omega arith
zeros_are (Some kind) parameters name ds = omega (arith, length-append (result_cells_of (Some kind) name) (variables ds))

-- a text with a result or without one
ending : (sc : Scopes) (all : Later) (known : Names) (number : ℕ) (t : Text) (ps : List Placed) (e : ℕ) (result : Option Kind) → IsDue sc known number t → t.result ≡ result →
    EndingAt (result_index result t.parameters) ps t.level e → EndAt sc (context_of sc all.formats all.labels t) ps t.level result t.name e
ending sc all known number t ps e None due is h = h
ending sc all known number t ps e (Some kind) due is h = record {
  kind = kind;
  is = ap yields_of is;
  named = due.named;
  couple = result_couple t.level (2 + t.parameters);
  level_is = refl;
  index_is = ap (λ n. 2 + n) (sym due.parameters);
  valued = h.0;
  over = h.1;
  read = h.2;
  back = h.3;
}

pub text_at : (sc : Scopes) (all : Later) (known : Names) (number : ℕ) (t : Text) (segment : Segment) → IsDue sc known number t →
    CodeStands (place_of sc t) all segment t.level (result_index t.result t.parameters) t.decls t.stmts → 6 * length segment.words ≤ 24 * t.tokens + 48 → TextStands sc all segment t
text_at sc all known number t segment due h short =
    let w = h.whole in
    let pcws = control_pcws sc (segment_of sc.blocks (block_of_text sc t)) t.level t.decls (actuals_in_block sc t.decls t.stmts) w.text.0 in
    let end = w.text.2.0 in
    let within = w.text.2.1 in
    let C : ℕ → Type 0 = λ many. CellsAt sc (context_of sc all.formats all.labels t) h.operators t.level many pcws w.begin within.0 in (
      h.operators,
      h.spells,
      (
        w.begin,
        w.text.0,
        within.0,
        within.1,
        end,
        w.over,
        w.text.1,
        subst C (zeros_are t.result t.parameters t.name t.decls) within.2,
        within.3,
        within.4,
        ending sc all known number t h.operators end t.result due refl w.text.2.2,
      ),
      w.tables,
      short,
    )

-- ---- those so far

-- wherever what is known later agrees with these formats and with the labels of these texts, their segments stand
pub record AreMade (names : Names) (all done : List Text) (formats : List Format) (segments : List Segment) : Type 0 where
  pub labels : List Label
  pub spots : spots_of labels ≡ text_spots done
  pub stand : (sc : Scopes) → AreDue sc names all → (later : Later) → DraftAgrees (record { formats = formats; labels = labels }) later → AllStand sc later segments done

-- what agrees with all formats and labels agrees with those before a text, and with the text's own
pub agrees_parts : (before formats : List Format) (xs ys : List Label) (later : Later) → IsFront before formats → DraftAgrees (record { formats = formats; labels = xs ++ ys }) later →
    DraftAgrees (record { formats = before; labels = xs }) later × DraftAgrees (record { formats = formats; labels = ys }) later
agrees_parts before formats xs ys later front known =
    let P : Label → Type 0 = λ l. later.labels l.spot ≡ Some l.place in (
      record { formats = front_trans before formats later.formats front known.formats; labels = each_front P xs ys known.labels },
      record { formats = known.formats; labels = each_back P xs ys known.labels },
    )

-- where no two labels stand at one place, they can be found by their places
pub all_agree : (formats : List Format) (labels : List Label) (ts : List Text) → spots_of labels ≡ text_spots ts → StandOnce ts →
    DraftAgrees (record { formats = formats; labels = labels }) (record { formats = formats; labels = label_place_in labels })
all_agree formats labels ts are once =
    let T : Spot → List Spot → Type 0 = λ spot l. spot_times spot l ≤ 1 in
    record { formats = front_self formats; labels = placed_once labels (λ spot. subst (T spot) (sym are) (once spot)) }

-- ---- by number

pub many_stand : (sc : Scopes) (all : Later) (xs : List Segment) (ts : List Text) → AllStand sc all xs ts → length xs ≡ length ts
many_stand sc all [] [] h = refl
many_stand sc all [] (t ∷ ts) h = absurd h
many_stand sc all (x ∷ xs) [] h = absurd h
many_stand sc all (x ∷ xs) (t ∷ ts) h = ap suc (many_stand sc all xs ts h.1)

abbrev operators_of : (sc : Scopes) (all : Later) (xs : List Segment) (ts : List Text) → AllStand sc all xs ts → ℕ → List Placed
operators_of sc all [] ts h k = []
operators_of sc all (x ∷ xs) [] h k = []
operators_of sc all (x ∷ xs) (t ∷ ts) h zero = h.0.0
operators_of sc all (x ∷ xs) (t ∷ ts) h (suc k) = operators_of sc all xs ts h.1 k

spells_at : (sc : Scopes) (all : Later) (xs : List Segment) (ts : List Text) (h : AllStand sc all xs ts) (k : ℕ) (x : Segment) → slice_get xs k ≡ Some x →
    Spells (operators_of sc all xs ts h k) x
spells_at sc all [] ts h zero x e = cc
spells_at sc all [] ts h (suc k) x e = cc
spells_at sc all (y ∷ ys) [] h k x e = absurd h
spells_at sc all (y ∷ ys) (t ∷ ts) h zero x e = let S : Segment → Type 0 = λ z. Spells h.0.0 z in subst S (some_same y x e) h.0.1
spells_at sc all (y ∷ ys) (t ∷ ts) h (suc k) x e = spells_at sc all ys ts h.1 k x e

code_at : (sc : Scopes) (all : Later) (xs : List Segment) (ts : List Text) (h : AllStand sc all xs ts) (k : ℕ) (t : Text) → slice_get ts k ≡ Some t →
    TextAt sc all.formats all.labels (operators_of sc all xs ts h k) t
code_at sc all [] [] h zero t e = cc
code_at sc all [] [] h (suc k) t e = cc
code_at sc all [] (u ∷ us) h k t e = absurd h
code_at sc all (y ∷ ys) [] h k t e = absurd h
code_at sc all (y ∷ ys) (u ∷ us) h zero t e = let T : Text → Type 0 = λ z. TextAt sc all.formats all.labels h.0.0 z in subst T (some_same u t e) h.0.2
code_at sc all (y ∷ ys) (u ∷ us) h (suc k) t e = code_at sc all ys us h.1 k t e

tables_at : (sc : Scopes) (all : Later) (xs : List Segment) (ts : List Text) (h : AllStand sc all xs ts) (k : ℕ) (t : Text) → slice_get ts k ≡ Some t →
    LabelTableAt all.labels (operators_of sc all xs ts h k) t
tables_at sc all [] [] h zero t e = absurd (let clash : None ≡ Some t = e in cc)
tables_at sc all [] [] h (suc k) t e = absurd (let clash : None ≡ Some t = e in cc)
tables_at sc all [] (u ∷ us) h k t e = absurd h
tables_at sc all (y ∷ ys) [] h k t e = absurd h
tables_at sc all (y ∷ ys) (u ∷ us) h zero t e = let T : Text → Type 0 = λ z. LabelTableAt all.labels h.0.0 z in subst T (some_same u t e) h.0.3
tables_at sc all (y ∷ ys) (u ∷ us) h (suc k) t e = tables_at sc all ys us h.1 k t e

pub all_coded : (sc : Scopes) (all : Later) (xs : List Segment) (ts : List Text) → AllStand sc all xs ts → Coded sc all.formats xs ts
all_coded sc all xs ts h = record {
  many = many_stand sc all xs ts h;
  labels = all.labels;
  placed = operators_of sc all xs ts h;
  spells = spells_at sc all xs ts h;
  code = code_at sc all xs ts h;
  tables = tables_at sc all xs ts h;
}

pub all_short : (sc : Scopes) (all : Later) (xs : List Segment) (ts : List Text) → AllStand sc all xs ts → AreShort xs ts
all_short sc all [] ts h zero x t e f = cc
all_short sc all [] ts h (suc k) x t e f = cc
all_short sc all (y ∷ ys) [] h k x t e f = absurd h
all_short sc all (y ∷ ys) (u ∷ us) h zero x t e f =
    let S : Segment → Text → Type 0 = λ z v. 6 * length z.words ≤ 24 * v.tokens + 48 in subst (S x) (some_same u t f) (subst (λ z. S z u) (some_same y x e) h.0.4)
all_short sc all (y ∷ ys) (u ∷ us) h (suc k) x t e f = all_short sc all ys us h.1 k x t e f
