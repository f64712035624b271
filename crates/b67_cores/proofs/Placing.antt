-- Fragments from a core that is at a place.
use Rattle.std.proofs.Common.{◌≡◌, refl, sym, ap, ◌∙◌, subst, ℕ, ◌+◌, ◌≤◌, List, length, arith}
use Rattle.algol_tree.specs.Scopes.{Scopes}
use Rattle.b67_segment.specs.Operators.{Placed}
use Rattle.b67_segment.specs.declared.code.Code.{Code}
use Rattle.b67_table.specs.Private.{frame}
use Rattle.b67_templates.specs.Contexts.{Context}
use Rattle.b67_standing.specs.Stepping.{Slot}
use Rattle.b67_cores.specs.Cores.{Core, size, CoreSteps}
use Rattle.b67_cores.specs.Slots.{Known, newest}
use Rattle.b67_cores.specs.Stretches.{CoreAt, Arrives, FragmentsArePerformed}
use Rattle.b67_cores.proofs.Moving.{Standing, moved}
use Rattle.b67_cores.proofs.Knowing.{Adds}
use Rattle.b67_cores.proofs.Faulting.{fault_is}
use Rattle.b67_cores.proofs.Stepped.{stepped, led}

-- a core is the one that its place and its slots make
pub placed_as : (place : ℕ) (slots : List Slot) (core : Core) → core.registers.s ≡ size core
    → core.registers.f ≡ newest (frame core.registers) (length core.below) slots → core.registers.place ≡ place → core ≡ moved core place slots core.words
placed_as place slots core top mark_is place_is =
    ap (λ n. record core { registers = record core.registers { s = n } }) top
    ∙ ap (λ n. record core { registers = record core.registers { s = length core.below + length core.words; f = n } }) mark_is
    ∙ ap (λ n. record core {
      registers = record core.registers {
        s = length core.below + length core.words;
        f = newest (frame core.registers) (length core.below) slots;
        place = n;
      };
    }) place_is

module _ (sc : Scopes) (known : List Known) (code : Code) (ps : List Placed) (level most bound place : ℕ) (slots : List Slot) (core : Core) (at : CoreAt sc known code ps level place slots core) where
  pub standing : length core.below + most ≤ bound → Standing code ps level most bound core
  standing room = record { segment = at.segment; there = at.there; spells = at.spells; level_is = at.level_is; bottom = at.is.bottom; room = room }

  pub moved_is : core ≡ moved core place slots core.words
  moved_is = placed_as place slots core at.is.top at.mark_is at.place_is

  arrives : (context : Context) (to : ℕ) (y : List Slot) → Adds sc context code ps level most bound core known place slots core.words to y →
      Arrives sc known context code ps level most bound to y core
  arrives context to y f = record {
    count = f.reaches.count;
    core = moved core to y f.reaches.left;
    steps = subst (λ (c : Core). CoreSteps code bound f.reaches.count c (moved core to y f.reaches.left)) (sym moved_is) f.reaches.steps;
    added = f.added;
    added_are = f.added_are;
    at = record {
      segment = at.segment;
      there = at.there;
      spells = at.spells;
      level_is = at.level_is;
      place_is = refl;
      is = record { bottom = at.is.bottom; top = refl };
      mark_is = refl;
      words_are = f.reaches.are;
    };
    moved = record { below = refl; registers = refl };
    room = f.reaches.room;
    few = omega (arith, f.reaches.few, at.place_is);
  }

pub fragments_are_performed : FragmentsArePerformed
fragments_are_performed = record {
  step = λ sc known context code ps level most bound from to x y core step at sees room bounded.
      arrives sc known code ps level most bound from x core at context to y
      (stepped sc known context code ps level most bound core (standing sc known code ps level most bound from x core at bounded) sees from to x y step core.words at.words_are room);
  leads = λ sc known context code ps level most bound from to x y core leads at sees room bounded.
      arrives sc known code ps level most bound from x core at context to y
      (led sc context code ps level most bound core (standing sc known code ps level most bound from x core at bounded) sees known from to x y leads core.words at.words_are room);
  fault = fault_is;
}
