-- A process that stands at its action does it: by what its head asks for.
use Rattle.std.proofs.Common.{◌≡◌, refl, ap, ℕ, zero, suc, ◌<◌, ◌≤◌, ◌^◌, List, [], ◌∷◌, length, Option, arith}
use Rattle.b67_pictures.proofs.Prelude.{EventDeed, Block, block_numbered, level_of, PProgram, PPair, PStmts, PBody, Scopes, scopes_of, use_of, MOST_BLOCK_CELLS, Kind, Named, PhraseText, Ask, nothing, reads, reads_element, indexes, enters, passes, resolves, reads_result, leaves, stores, selects, turns, goes_to, enters_block, starts, writes, makes_arrays, makes_event, ask, event_deed, own, there, element_of, Given, done, value, cell, Value, Reference, Instance, or_no_instance, Couple, Code, simple_cells, IsVariable, IsRead, of_variable, of_formal, AreNested, LiesNested, Texts, RestsGoOn, CodeGoesOn, found_low, AbleActor, actor_of, text_in, level_in, context_in, most_in, names_in, TheLaws, Does}
use Rattle.algol_tree.specs.declared.TheConstants.{MOST_LEVEL}
use Rattle.algol_meaning.specs.Rest.{Place, place, entered}
use Rattle.algol_meaning.specs.Asks.{fails}
use Rattle.b67_pictures.proofs.Resolving.{resolving}
use Rattle.b67_pictures.proofs.Evaluating.{ActualsAreEntered, evaluating_value, evaluating_place}
use Rattle.b67_pictures.proofs.StoringThere.{storing_there}
use Rattle.b67_pictures.proofs.Reading.{reading, reading_name}
use Rattle.b67_pictures.proofs.ReadingResult.{reading_result}
use Rattle.b67_pictures.proofs.Storing.{storing}
use Rattle.b67_pictures.proofs.Failing.{failing}
use Rattle.b67_pictures.proofs.Turning.{turning}
use Rattle.b67_pictures.proofs.Head.{Head}

-- ---- the cells of a block are few

known_or_empty : (sc : Scopes) (bs : List Block) (j : ℕ) → (j < length bs → length (simple_cells sc (block_numbered bs j)) ≤ MOST_BLOCK_CELLS) → length (simple_cells sc (block_numbered bs j)) ≤ MOST_BLOCK_CELLS
known_or_empty sc [] j few = omega arith
known_or_empty sc (b ∷ bs) zero few = few (omega arith)
known_or_empty sc (b ∷ bs) (suc j) few = known_or_empty sc bs j (λ low. few (omega (arith, low)))

pub small_index : (sc : Scopes) → AreNested sc → (level : ℕ) (n : Named) (kind : Kind) (couple : Couple) → IsVariable sc level n kind couple → couple.index < 2 ^ 14
small_index sc nested level n kind couple v =
    let cells = simple_cells sc (block_numbered sc.blocks ((use_of sc n).block)) in
    omega (arith, found_low 0 cells n.name v.found v.there, known_or_empty sc sc.blocks ((use_of sc n).block) (λ low. omega (arith, (nested.each ((use_of sc n).block) low).few)), v.index_is)

-- ---- the actions

module _ (tree : PProgram) (code : Code) (texts : Texts) where
  -- each process whose head asks for this does its action
  abbrev pub IsDone : Ask → Type 0
  IsDone k = (actor : AbleActor tree code texts) → Head tree code texts actor k → Does tree code texts actor.w actor.img actor.p

  -- a line, the choice of a statement, the entry of a block or of a procedure, what is done with arrays and events, the leaving of a block, of a
  -- procedure, or of an evaluation, the end, GO TO, the start of a process
  pub record OthersAreDone : Type 0 where
    pub writing : (phrases : List PhraseText) (vs : List Value) → IsDone (writes phrases vs)
    pub selecting : (v : Value) (ss : PStmts) → IsDone (selects v ss)
    pub entering : (b : PBody) → IsDone (enters_block b)
    pub calling : (n : Named) (gs : List Given) → IsDone (enters n gs)
    pub reading : (n : Named) (ks : List ℕ) (v : Value) → IsDone (reads_element n ks v)
    pub indexing : (n : Named) (ks : List ℕ) (v : Value) → IsDone (indexes n ks v)
    pub storing : (r : Reference) (ks : List ℕ) (v : Value) → IsDone (stores (element_of r ks) v)
    pub passing : (n : Named) → IsDone (passes n)
    pub making : (kind : Kind) (ns : List Named) (pairs : List PPair) (vs : List Value) → IsDone (makes_arrays kind ns pairs vs)
    pub making_event : (n : Named) → IsDone (makes_event n)
    pub acting : (x : EventDeed) (ns : List Named) → IsDone (event_deed x ns)
    pub leaving : IsDone (leaves done)
    pub returning : (v : Value) → IsDone (leaves (value v))
    pub placing : (x : Place) → IsDone (leaves (place x))
    pub going : (n : Named) → IsDone (goes_to n)
    pub starting : (n : Named) (gs : List Given) (task : Option Named) → IsDone (starts n gs task)

  module _ (lies : LiesNested tree) (actuals : ActualsAreEntered tree code texts) (laws : TheLaws) (rests : RestsGoOn) (others : OthersAreDone) (actor : AbleActor tree code texts) where
    open actor use {w, lay, img, p, q, part, outer, bound, core, s, able_is, able_p}

    -- the part's level is one that the machine has
    low : names_in tree w part ≤ MOST_LEVEL
    low =
        let framed = s.stands.frame in
        let same : names_in tree w part ≡ level_of (block_numbered (scopes_of tree).blocks framed.instance.block) =
        ap (λ (o : Option Instance). level_of (block_numbered (scopes_of tree).blocks ((or_no_instance o).block))) framed.is in
        omega (arith, same, (lies.nested.each framed.instance.block framed.known).low)

    -- by what is read
    read_by : (n : Named) (h : Head tree code texts actor (reads n)) → IsRead (scopes_of tree) (names_in tree w part) n h.action.0 h.action.2.0 → Does tree code texts w img p
    read_by n h (of_variable v) = reading tree code texts laws actor n h v
    read_by n h (of_formal v) =
        reading_name tree code texts laws actor n h lies.nested
        (evaluating_value tree code texts lies actuals laws actor n h) v

    by_ask : (k : Ask) → Head tree code texts actor k → Does tree code texts w img p
    by_ask (reads n) h = read_by n h h.action.2.1
    by_ask (fails fault) h = failing tree code texts (actor_of s) fault h.asks h.action
    by_ask (stores (own n) v) h =
        storing tree code texts laws actor n v h (omega (arith, h.action.2.variable.level_is, low))
        (small_index (scopes_of tree) lies.nested (names_in tree w part) n h.action.2.kind h.action.2.couple h.action.2.variable)
    by_ask turns h = turning tree code texts laws actor h
    by_ask (writes phrases vs) h = others.writing phrases vs actor h
    by_ask (selects v ss) h = others.selecting v ss actor h
    by_ask (enters_block b) h = others.entering b actor h
    by_ask (leaves done) h = others.leaving actor h
    by_ask (leaves (value v)) h = others.returning v actor h
    by_ask (leaves (cell c)) h = absurd h.action
    by_ask (leaves (place x)) h = others.placing x actor h
    by_ask (leaves entered) h = absurd h.action
    by_ask (stores (there r) v) h = storing_there tree code texts lies.nested laws actor r v h
    by_ask (stores (element_of r ks) v) h = others.storing r ks v actor h
    by_ask nothing h = absurd h.action
    by_ask (reads_element n ks v) h = others.reading n ks v actor h
    by_ask (indexes n ks v) h = others.indexing n ks v actor h
    by_ask (enters n gs) h = others.calling n gs actor h
    by_ask (passes n) h = others.passing n actor h
    by_ask (resolves n) h =
        resolving tree code texts lies.nested laws actor n h
        (evaluating_place tree code texts lies actuals laws actor n h)
    by_ask (reads_result name) h = reading_result tree code texts lies.nested laws actor name h
    by_ask (goes_to n) h = others.going n actor h
    by_ask (starts n gs task) h = others.starting n gs task actor h
    by_ask (event_deed x ns) h = others.acting x ns actor h
    by_ask (makes_arrays kind ns pairs vs) h = others.making kind ns pairs vs actor h
    by_ask (makes_event n) h = others.making_event n actor h

    -- whatever its head asks for
    pub scene_does : Does tree code texts w img p
    scene_does =
        let on : CodeGoesOn (scopes_of tree) (context_in tree code texts w part s.stands.frame.gives) (text_in tree texts w part) (level_in tree w part) (most_in tree w part) part.rest s.stands.pc s.stands.slots =
        rests (scopes_of tree) (context_in tree code texts w part s.stands.frame.gives) (text_in tree texts w part) (level_in tree w part) (most_in tree w part) part.rest s.stands.pc s.stands.slots s.stands.stands s.stands.asks in
        by_ask (ask part.rest) (record { asks = refl; action = on.action; answered = on.answered; waits = on.waits; returns = on.returns })
