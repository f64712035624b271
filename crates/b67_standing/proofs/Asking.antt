-- What each head asks for is an action, and so it is where the machine stands for an expression.
use Rattle.std.proofs.Common.{◌≡◌, ℕ, List, ◌∷◌, Option}
use Rattle.b67_deeds.specs.Deeds.{EventDeed}
use Rattle.algol_tree.specs.declared.tree.Kind.{Kind}
use Rattle.algol_tree.specs.declared.tree.Kind.TheVariants as types
use Rattle.algol_tree.specs.declared.tree.Named.{Named}
use Rattle.algol_tree.specs.declared.tree.PhraseText.{PhraseText}
use Rattle.algol_tree.specs.Plain.{PPair, PStmts, PBody}
use Rattle.algol_tree.specs.Types.{taken_by}
use Rattle.algol_tree.specs.Scopes.{Scopes}
use Rattle.algol_meaning.specs.Value.{Value}
use Rattle.algol_meaning.specs.Rest as rests
use Rattle.algol_meaning.specs.Rest.{Hole, Actuals, Aim, Place, Given, Answer}
use Rattle.algol_meaning.specs.Asks.{nothing, indexes, resolves, passes, makes_arrays, makes_event, event_deed, goes_to, starts, reads_result, enters, leaves, stores, selects, turns, writes, enters_block, ask_hole, ask_actuals, ask_aim}
use Rattle.b67_segment.specs.Operators.{Placed}
use Rattle.b67_templates.specs.Contexts.{Context}
use Rattle.b67_templates.specs.Cells.{Wanted, parameter_wants}
use Rattle.b67_standing.specs.Stepping.{Slot, operand, ready}
use Rattle.b67_standing.specs.Standing.{given_slots, call_begun, Holds, Fills, Aims}
use Rattle.b67_standing.proofs.Seeking.{sought_in}

-- ---- statements

pub leaves_asks : (a : Answer) → leaves a ≡ nothing → ⊥
leaves_asks a e = cc

pub stores_asks : (p : Place) (v : Value) → stores p v ≡ nothing → ⊥
stores_asks p v e = cc

pub selects_asks : (v : Value) (ss : PStmts) → selects v ss ≡ nothing → ⊥
selects_asks v ss e = cc

pub turns_asks : turns ≡ nothing → ⊥
turns_asks e = cc

pub writes_asks : (phrases : List PhraseText) (vs : List Value) → writes phrases vs ≡ nothing → ⊥
writes_asks phrases vs e = cc

pub enters_asks : (b : PBody) → enters_block b ≡ nothing → ⊥
enters_asks b e = cc

pub starts_asks : (n : Named) (gs : List Given) (task : Option Named) → starts n gs task ≡ nothing → ⊥
starts_asks n gs task e = cc

pub calls_asks : (n : Named) (gs : List Given) → enters n gs ≡ nothing → ⊥
calls_asks n gs e = cc

pub result_asks : (name : List ℕ) → reads_result name ≡ nothing → ⊥
result_asks name e = cc

pub arrays_ask : (kind : Kind) (ns : List Named) (pairs : List PPair) (vs : List Value) → makes_arrays kind ns pairs vs ≡ nothing → ⊥
arrays_ask kind ns pairs vs e = cc

pub event_asks : (n : Named) → makes_event n ≡ nothing → ⊥
event_asks n e = cc

pub deed_asks : (x : EventDeed) (ns : List Named) → event_deed x ns ≡ nothing → ⊥
deed_asks x ns e = cc

pub going_asks : (n : Named) → goes_to n ≡ nothing → ⊥
going_asks n e = cc

indexes_asks : (n : Named) (ks : List ℕ) (v : Value) → indexes n ks v ≡ nothing → ⊥
indexes_asks n ks v e = cc

pub resolves_asks : (n : Named) → resolves n ≡ nothing → ⊥
resolves_asks n e = cc

passes_asks : (n : Named) → passes n ≡ nothing → ⊥
passes_asks n e = cc

-- ---- expressions

module _ (sc : Scopes) (context : Context) (ps : List Placed) (level most : ℕ) where
  mutual
    pub holds_asks : (k : Kind) (h : Hole) (pc : ℕ) (slots below : List Slot) (to : ℕ) → Holds sc context ps level most k h pc slots below to → ask_hole h ≡ nothing → ⊥
    holds_asks k (rests.read n) pc slots below to s e = cc
    holds_asks k (rests.tests x ns) pc slots below to s e = cc
    holds_asks k (rests.broken op v w fault) pc slots below to s e = cc
    holds_asks k (rests.enter n gs) pc slots below to s e = cc
    holds_asks k (rests.left op h b) pc slots below to s e = holds_asks (taken_by op) h pc slots below s.0 s.5 e
    holds_asks k (rests.right op v h) pc slots below to s e = holds_asks (taken_by op) h pc slots (operand (ready op v) ∷ below) s.0 s.4 e
    holds_asks k (rests.negated h) pc slots below to s e = holds_asks types.Number h pc slots below s.0 s.3 e
    holds_asks k (rests.inverted h) pc slots below to s e = holds_asks types.Truth h pc slots below s.0 s.3 e
    holds_asks k (rests.condition h x y) pc slots below to s e = holds_asks types.Truth h pc slots below s.0 s.6 e
    holds_asks k (rests.element n ks v) pc slots below to s e = cc
    holds_asks k (rests.index n ks v i is) pc slots below to s e = indexes_asks n ks v e
    holds_asks k (rests.subscript n ks h es) pc slots below to s e =
        let w = sought_in sc context ps level most h pc slots n s.1 (s.0).lows ks es below s.2 s.6 in holds_asks types.Number h pc slots w.over w.at w.holds e
    holds_asks k (rests.argument n x) pc slots below to s e = fills_asks (parameter_wants sc s.0) x pc slots (call_begun s.1 below) s.2 s.6 e
    holds_asks k _ pc slots below to s e = absurd s

    pub fills_asks : (all : List Wanted) (x : Actuals) (pc : ℕ) (slots begun : List Slot) (filled : ℕ) → Fills sc context ps level most all x pc slots begun filled →
        ask_actuals x ≡ nothing → ⊥
    fills_asks all (rests.in_value gs h sorts es) pc slots begun filled s e = holds_asks s.1 h pc slots (given_slots s.0 gs begun) s.3 s.6 e
    fills_asks all (rests.pass gs x sorts es) pc slots begun filled s e = passes_asks x e

  pub aims_asks : (k : Kind) (x : Aim) (pc : ℕ) (slots below : List Slot) (to : ℕ) → Aims sc context ps level most k x pc slots below to → ask_aim x ≡ nothing → ⊥
  aims_asks k (rests.place_index n ks v es) pc slots below to s e = indexes_asks n ks v e
  aims_asks k (rests.place_subscript n ks h es) pc slots below to s e =
      let w = sought_in sc context ps level most h pc slots n s.1 (s.0).lows ks es below s.2 s.5 in holds_asks types.Number h pc slots w.over w.at w.holds e
  aims_asks k (rests.resolve n) pc slots below to s e = resolves_asks n e
  aims_asks k rests.inside_place pc slots below to s e = absurd s
