-- What the head of a process asks for that stands at its action, and where each answer leads.
use Rattle.std.proofs.Common.{◌≡◌, ℕ, List}
use Rattle.b67_pictures.proofs.Prelude.{PProgram, scopes_of, Ask, nothing, ask, resume, Answer, Code, Yields, Texts, Acted, ActionAt, Gives, pushed, ComesTo, Slot, AbleActor, Actor, actor_of, text_in, level_in, context_in, most_in}
use Rattle.b67_standing.specs.Standing.{Entered}
use Rattle.algol_meaning.specs.Rest.{entered}

module _ (tree : PProgram) (code : Code) (texts : Texts) (actor : Actor tree code texts) where
  open actor use {w, part, s}

  abbrev pub At : Ask → Type 0
  At k = ActionAt (scopes_of tree) (context_in tree code texts w part s.stands.frame.gives) (text_in tree texts w part) (level_in tree w part) (most_in tree w part) k s.stands.pc s.stands.slots

  abbrev pub EntersAt : (k : Ask) → At k → ℕ → List Slot → Yields → Type 0
  EntersAt k a at after wanted = Entered (scopes_of tree) (context_in tree code texts w part s.stands.frame.gives) (text_in tree texts w part) (level_in tree w part) (most_in tree w part) k s.stands.pc s.stands.slots a at after wanted

  -- where each answer leads, the machine stands for what is left
  abbrev pub AnswersAfter : (k : Ask) → At k → Type 0
  AnswersAfter k a =
      (r : Answer) (at : ℕ) (left : List Slot) →
      Acted (scopes_of tree) (context_in tree code texts w part s.stands.frame.gives) (text_in tree texts w part) (level_in tree w part) (most_in tree w part) k s.stands.pc s.stands.slots a r at left →
      ComesTo (scopes_of tree) (context_in tree code texts w part s.stands.frame.gives) (text_in tree texts w part) (level_in tree w part) (most_in tree w part) (resume (scopes_of tree) part.rest r) at left

  -- the part waits after the entry, and goes on with what is wanted
  abbrev pub WaitsAfter : (k : Ask) → At k → Type 0
  WaitsAfter k a = (at : ℕ) (after : List Slot) (wanted : Yields) → EntersAt k a at after wanted → ask (resume (scopes_of tree) part.rest entered) ≡ nothing

  abbrev pub ReturnsAfter : (k : Ask) → At k → Type 0
  ReturnsAfter k a =
      (at : ℕ) (after : List Slot) (wanted : Yields) → EntersAt k a at after wanted → (r : Answer) → Gives wanted r →
      ComesTo (scopes_of tree) (context_in tree code texts w part s.stands.frame.gives) (text_in tree texts w part) (level_in tree w part) (most_in tree w part) (resume (scopes_of tree) (resume (scopes_of tree) part.rest entered) r) at
      (pushed wanted r after)

module _ (tree : PProgram) (code : Code) (texts : Texts) (actor : AbleActor tree code texts) where
  open actor use {part, s}

  -- at whose operator the machine stands; each answer leads on, and so does each entry
  pub record Head (k : Ask) : Type 0 where
    pub asks : ask part.rest ≡ k
    pub action : At tree code texts (actor_of s) k
    pub answered : AnswersAfter tree code texts (actor_of s) k action
    pub waits : WaitsAfter tree code texts (actor_of s) k action
    pub returns : ReturnsAfter tree code texts (actor_of s) k action
