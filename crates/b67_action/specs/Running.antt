-- A run of a process on the lent room of its own stack: plain operators, and actions of its own that go on.
use Rattle.std.specs.Prelude.{◌≡◌, ◌⊎◌, ℕ, ◌+◌, ◌<◌, Bool, true, false, List, [], ◌∷◌, ◌++◌, ◌≤◌, length, take, Some}
use Rattle.b67_list.specs.Numbered.{numbered}
use Rattle.b67_word.specs.Word.{Word}
use Rattle.b67_control.specs.declared.Registers.{Registers}
use Rattle.b67_segment.specs.declared.code.Code.{Code}
use Rattle.b67_store.specs.Store.{words_of, with_stack, stack_limit}
use Rattle.b67_table.specs.Image.{Image, is_able}
use Rattle.b67_table.specs.Runs.{Plains}
use Rattle.b67_table.specs.Table.{plain}
use Rattle.b67_table.specs.Valid.{IsValid}
use Rattle.b67_deeds.specs.declared.Letter.{Letter}
use Rattle.b67_letters.specs.Letters.{letter}
use Rattle.b67_reach.specs.Images.{own_of_image, with_own}
use Rattle.b67_action.specs.declared.running.Ran.{Ran}
use Rattle.b67_action.specs.Onward.{HasGone}

-- ---- what is lent

-- a process that is able in a valid image has these registers, and its stack these first words of a room
pub record IsLent (code : Code) (img : Image) (p : ℕ) (r : Registers) (room : List Word) : Type 0 where
  pub valid : IsValid code img
  pub able : is_able (numbered img.states p) ≡ true
  pub has : numbered img.regs p ≡ Some r
  pub words : words_of img.stacks r.stack ≡ take r.s room

-- the image with these registers for the process's own, and these words of a room for its stack's
abbrev pub given_back : Registers → List Word → ℕ → Image → Image
given_back r room p img = with_own (own_of_image (with_stack img.stacks r.stack (take r.s room)) img.rows r) p img

-- ---- a run

-- these are as they were
pub record StaysCalm (old new : Image) : Type 0 where
  pub states : new.states ≡ old.states
  pub started : new.started ≡ old.started
  pub fault : new.fault ≡ old.fault

-- so many plain operators, and fewer than the most only where the next one is not plain
pub record IsStretchOf (code : Code) (p n most : ℕ) (old new : Image) : Type 0 where
  pub plains : Plains code p old n new
  pub stops : n < most → plain code new p ≡ false
  pub calm : StaysCalm old new

-- the next operator is an action of this letter that went on, and released and started nobody
pub record ActionGoesOn (code : Code) (p : ℕ) (l : Letter) (old new : Image) : Type 0 where
  pub action : plain code old p ≡ false
  pub letter_is : letter code old p ≡ Some l
  pub gone : HasGone code old p new []
  pub calm : StaysCalm old new

-- a room has a word above those that S counts, or all words that a stack may have
abbrev pub HasPlace : Registers → List Word → Type 0
HasPlace r room = (r.s < length room) ⊎ (length room ≡ stack_limit)

-- one operator of a run on a room: a plain one, or none, where what comes next is not plain, or the room has no place for it
abbrev pub PlainStep : Registers → List Word → Bool → Code → ℕ → Image → Image → Type 0
PlainStep r room true code p old new = IsStretchOf code p 1 1 old new
PlainStep r room false code p old new = IsStretchOf code p 0 0 old new × (HasPlace r room → plain code new p ≡ false)

-- entries with these letters, and so many operators in all: each some plain operators, and then an action of its letter that went on
pub data EntriesWalk (code : Code) (p : ℕ) : Image → List Letter → ℕ → Image → Type 0 where
  stay : {a : Image} → EntriesWalk code p a [] 0 a
  go : {a b c d : Image} {ls : List Letter} {l : Letter} {m k : ℕ} → EntriesWalk code p a ls m b → Plains code p b k c → ActionGoesOn code p l c d
      → EntriesWalk code p a (ls ++ l ∷ []) (m + (k + 1)) d

-- a run is open where no entry was performed, or letters of others can be noted
abbrev pub IsOpenAt : ℕ → List Letter → Type 0
IsOpenAt entries noted = 1 ≤ entries → entries < length noted

-- so many entries, whose letters are noted first in a list, and then so many plain operators of the next one: none after the last letter that can
-- be noted
pub record HasCome (code : Code) (p : ℕ) (old : Image) (ran : Ran) (noted : List Letter) (new : Image) : Type 0 where
  pub between : Image
  pub few : ran.entries ≤ length noted
  pub walks : EntriesWalk code p old (take ran.entries noted) ran.operators between
  pub plains : Plains code p between ran.plain new
  pub last : 1 ≤ ran.entries → ran.entries ≡ length noted → ran.plain ≡ 0
  pub valid : IsValid code new
  pub calm : StaysCalm old new

-- And on a room: they are fewer than the most in all only where the last letter that can be noted was, where the next operator is not plain, or where
-- the room has no place for it.
pub record HasRunIn (r : Registers) (room : List Word) (code : Code) (p most : ℕ) (old : Image) (ran : Ran) (noted : List Letter) (new : Image) : Type 0 where
  pub come : HasCome code p old ran noted new
  pub stops : HasPlace r room → ran.operators + ran.plain < most → IsOpenAt ran.entries noted → plain code new p ≡ false

-- So many entries, whose letters are noted first in a list, and then so many plain operators of the next one: none after the last letter that can
-- be noted. They are fewer than the most in all only where that was noted, or the next operator is not plain.
pub record HasRun (code : Code) (p most : ℕ) (old : Image) (ran : Ran) (noted : List Letter) (new : Image) : Type 0 where
  pub between : Image
  pub few : ran.entries ≤ length noted
  pub walks : EntriesWalk code p old (take ran.entries noted) ran.operators between
  pub plains : Plains code p between ran.plain new
  pub last : 1 ≤ ran.entries → ran.entries ≡ length noted → ran.plain ≡ 0
  pub stops : ran.operators + ran.plain < most → IsOpenAt ran.entries noted → plain code new p ≡ false
  pub valid : IsValid code new
  pub calm : StaysCalm old new
