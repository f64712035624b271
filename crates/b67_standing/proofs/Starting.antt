-- The items of a block follow where their code stands, and so do the arrays, the events and the statements of an inner block.
use Rattle.std.proofs.Common.{◌≡◌, refl, sym, subst, ℕ, ◌≤◌, arith, List, [], ◌∷◌, ◌++◌, append_assoc, Option, Some, None}
use Rattle.algol_tree.specs.declared.tree.Kind.{Kind}
use Rattle.algol_tree.specs.declared.tree.Named.{Named}
use Rattle.algol_tree.specs.Plain as tree
use Rattle.algol_tree.specs.Plain.{PDecl, PDecls, PStmts}
use Rattle.algol_tree.specs.Blocks.{Block}
use Rattle.algol_tree.specs.Scopes.{Scopes}
use Rattle.algol_meaning.specs.Rest as rests
use Rattle.algol_meaning.specs.Rest.{Item}
use Rattle.algol_meaning.specs.Statements.{items, event_items, decl_items, decls_items, ending, items_of, settle_items}
use Rattle.b67_segment.specs.Operators.{Placed}
use Rattle.b67_templates.specs.Contexts.{Context}
use Rattle.b67_templates.specs.Fragments.{stop}
use Rattle.b67_templates.specs.Events.{EventsMadeAt}
use Rattle.b67_templates.specs.Code.{HasNoCounts, DeclsAt, KAt}
use Rattle.b67_templates.specs.Depths.{decls_depth, stmts_depth, counts_in, AreShallow}
use Rattle.b67_standing.specs.Standing.{ItemsAreCounts, SlotsFollow, ComesTo}
use Rattle.b67_standing.specs.Laws.{BlocksStart, InnerBlocksStart, InnerBlocksFollow, CountsHaveRoom}
use Rattle.b67_standing.proofs.Leading.{pend_length, pend_none}
use Rattle.b67_standing.proofs.Rests.{counts_within}
use Rattle.b67_standing.proofs.Performing.{items_follow}
use Rattle.b67_standing.proofs.Items.{items_at}

-- ---- nothing of a THRU is among statements and declarations

pub items_uncounted : (ss : PStmts) (k : List Item) → HasNoCounts k → HasNoCounts (items ss k)
items_uncounted tree.no_stmts k h = h
items_uncounted (tree.stmts s ss) k h = items_uncounted ss k h

events_uncounted : (ns : List Named) (k : List Item) → HasNoCounts k → HasNoCounts (event_items ns ++ k)
events_uncounted [] k h = h
events_uncounted (n ∷ ns) k h = events_uncounted ns k h

decl_uncounted : (d : PDecl) (k : List Item) → HasNoCounts k → HasNoCounts (decl_items d ++ k)
decl_uncounted (tree.arrays kind ns pairs) k h = h
decl_uncounted (tree.events ns) k h = events_uncounted ns k h
decl_uncounted (tree.tasks ns) k h = events_uncounted ns k h
decl_uncounted _ k h = h

-- the declarations of a block are those of the first, and then the others
pub decls_split : (d : PDecl) (ds : PDecls) (k : List Item) → decls_items (tree.decls d ds) ++ k ≡ decl_items d ++ (decls_items ds ++ k)
decls_split d ds k = append_assoc (decl_items d) (decls_items ds) k

decls_uncounted : (ds : PDecls) (k : List Item) → HasNoCounts k → HasNoCounts (decls_items ds ++ k)
decls_uncounted tree.no_decls k h = h
decls_uncounted (tree.decls d ds) k h =
    subst HasNoCounts (sym (decls_split d ds k)) (decl_uncounted d (decls_items ds ++ k) (decls_uncounted ds k h))

-- so there are no counts
uncounted : (k : List Item) → HasNoCounts k → counts_in k ≡ 0
uncounted [] h = refl
uncounted (rests.count n b ∷ k) h = absurd h
uncounted (rests.run s ∷ k) h = uncounted k h
uncounted (rests.turn ∷ k) h = uncounted k h
uncounted (rests.check b c ∷ k) h = uncounted k h
uncounted (rests.test loop ∷ k) h = uncounted k h
uncounted (rests.result name ∷ k) h = uncounted k h
uncounted (rests.make_arrays kind ns pairs ∷ k) h = uncounted k h
uncounted (rests.make_event n ∷ k) h = uncounted k h

pub none_wait : (k : List Item) → HasNoCounts k → ItemsAreCounts k
none_wait [] h = tt
none_wait (rests.count n b ∷ k) h = absurd h
none_wait (rests.run s ∷ k) h = none_wait k h
none_wait (rests.turn ∷ k) h = none_wait k h
none_wait (rests.check b c ∷ k) h = none_wait k h
none_wait (rests.test loop ∷ k) h = none_wait k h
none_wait (rests.result name ∷ k) h = none_wait k h
none_wait (rests.make_arrays kind ns pairs ∷ k) h = none_wait k h
none_wait (rests.make_event n ∷ k) h = none_wait k h

-- ---- they need no more words than there may be

pub items_shallow : (most : ℕ) (ss : PStmts) (k : List Item) → HasNoCounts k → stmts_depth ss ≤ most → AreShallow most k → AreShallow most (items ss k)
items_shallow most tree.no_stmts k h l a = a
items_shallow most (tree.stmts s ss) k h l a =
    (omega (arith, l, uncounted (items ss k) (items_uncounted ss k h)), items_shallow most ss k h (omega (arith, l)) a)

events_shallow : (most : ℕ) (ns : List Named) (k : List Item) → HasNoCounts k → 2 ≤ most → AreShallow most k → AreShallow most (event_items ns ++ k)
events_shallow most [] k h two a = a
events_shallow most (n ∷ ns) k h two a = (omega (arith, two, uncounted (event_items ns ++ k) (events_uncounted ns k h)), events_shallow most ns k h two a)

decls_shallow : (most : ℕ) (ds : PDecls) (k : List Item) → HasNoCounts k → decls_depth ds ≤ most → AreShallow most k → AreShallow most (decls_items ds ++ k)
decls_shallow most tree.no_decls k h l a = a
decls_shallow most (tree.decls (tree.arrays kind ns pairs) ds) k h l a =
    (omega (arith, l, uncounted (decls_items ds ++ k) (decls_uncounted ds k h)), decls_shallow most ds k h (omega (arith, l)) a)
decls_shallow most (tree.decls (tree.events ns) ds) k h l a =
    subst (AreShallow most) (sym (decls_split (tree.events ns) ds k))
    (events_shallow most ns (decls_items ds ++ k) (decls_uncounted ds k h) (omega (arith, l)) (decls_shallow most ds k h (omega (arith, l)) a))
decls_shallow most (tree.decls (tree.tasks ns) ds) k h l a =
    subst (AreShallow most) (sym (decls_split (tree.tasks ns) ds k))
    (events_shallow most ns (decls_items ds ++ k) (decls_uncounted ds k h) (omega (arith, l)) (decls_shallow most ds k h (omega (arith, l)) a))
decls_shallow most (tree.decls (tree.simple kind ns) ds) k h l a = decls_shallow most ds k h l a
decls_shallow most (tree.decls (tree.files ns) ds) k h l a = decls_shallow most ds k h l a
decls_shallow most (tree.decls (tree.labels ns) ds) k h l a = decls_shallow most ds k h l a
decls_shallow most (tree.decls (tree.forward heading) ds) k h l a = decls_shallow most ds k h l a
decls_shallow most (tree.decls (tree.procedure heading s) ds) k h l a = decls_shallow most ds k h l a

-- ---- blocks

-- what a block ends with needs a word at most, and nothing waits there
pub record Ends (most : ℕ) (k : List Item) : Type 0 where
  pub none : HasNoCounts k
  pub shallow : AreShallow most k

pub ends : (most : ℕ) (b : Block) (o : Option Kind) → b.result ≡ o → 1 ≤ most → Ends most (ending b)
ends most b None e l =
    let last : ending b ≡ [] = rw e refl in subst (Ends most) (sym last) (record { none = tt; shallow = tt })
ends most b (Some kind) e l =
    let last : ending b ≡ rests.result b.name ∷ [] = rw e refl in
    subst (Ends most) (sym last) (record { none = tt; shallow = (omega (arith, l), tt) })

-- where nothing waits, nothing lies there
pub bare_start : (sc : Scopes) (context : Context) (ps : List Placed) (level most : ℕ) (k : List Item) (pc : ℕ) → HasNoCounts k → SlotsFollow sc context ps level most k pc →
    ComesTo sc context ps level most (settle_items sc k) pc []
bare_start sc context ps level most k pc h follows =
    subst (λ o. ComesTo sc context ps level most (settle_items sc k) pc o) (pend_none k h) (items_at sc context ps level most k pc follows)

pub blocks_start : BlocksStart
blocks_start sc context ps level most b pc h l one =
    let e = ends most b b.result refl one in
    let statements = items b.stmts (ending b) in
    let uncounts : HasNoCounts statements = items_uncounted b.stmts (ending b) e.none in
    let all : HasNoCounts (items_of b) = decls_uncounted b.decls statements uncounts in
    bare_start sc context ps level most (items_of b) pc all (record {
      at = h;
      shallow = decls_shallow most b.decls statements uncounts (omega (arith, l)) (items_shallow most b.stmts (ending b) e.none (omega (arith, l)) e.shallow);
      counts = none_wait (items_of b) all;
    })

-- events stand before what comes after them
events_at : (sc : Scopes) (context : Context) (ps : List Placed) (level : ℕ) (ns : List Named) (k : List Item) (f t : ℕ) → HasNoCounts k →
    EventsMadeAt sc context ps level ns f t → KAt sc context ps level k t → KAt sc context ps level (event_items ns ++ k) f
events_at sc context ps level [] k f t none h s = subst (λ z. KAt sc context ps level k z) (sym h) s
events_at sc context ps level (n ∷ ns) k f t none h s = (f, h.0, stop, h.1, events_uncounted ns k none, events_at sc context ps level ns k h.0 t none h.2 s)

-- .. and so do all that declarations make
decls_at : (sc : Scopes) (context : Context) (ps : List Placed) (level : ℕ) (ds : PDecls) (k : List Item) (f t : ℕ) → HasNoCounts k → DeclsAt sc context ps level ds f t →
    KAt sc context ps level k t → KAt sc context ps level (decls_items ds ++ k) f
decls_at sc context ps level tree.no_decls k f t n h s = subst (λ z. KAt sc context ps level k z) (sym h) s
decls_at sc context ps level (tree.decls (tree.arrays kind ns pairs) ds) k f t n h s =
    (f, h.0, stop, h.1, decls_uncounted ds k n, decls_at sc context ps level ds k h.0 t n h.2 s)
decls_at sc context ps level (tree.decls (tree.events ns) ds) k f t n h s =
    subst (λ o. KAt sc context ps level o f) (sym (decls_split (tree.events ns) ds k))
    (events_at sc context ps level ns (decls_items ds ++ k) f h.0 (decls_uncounted ds k n) h.1 (decls_at sc context ps level ds k h.0 t n h.2 s))
decls_at sc context ps level (tree.decls (tree.tasks ns) ds) k f t n h s =
    subst (λ o. KAt sc context ps level o f) (sym (decls_split (tree.tasks ns) ds k))
    (events_at sc context ps level ns (decls_items ds ++ k) f h.0 (decls_uncounted ds k n) h.1 (decls_at sc context ps level ds k h.0 t n h.2 s))
decls_at sc context ps level (tree.decls (tree.simple kind ns) ds) k f t n h s = decls_at sc context ps level ds k f t n h s
decls_at sc context ps level (tree.decls (tree.files ns) ds) k f t n h s = decls_at sc context ps level ds k f t n h s
decls_at sc context ps level (tree.decls (tree.labels ns) ds) k f t n h s = decls_at sc context ps level ds k f t n h s
decls_at sc context ps level (tree.decls (tree.forward heading) ds) k f t n h s = decls_at sc context ps level ds k f t n h s
decls_at sc context ps level (tree.decls (tree.procedure heading x) ds) k f t n h s = decls_at sc context ps level ds k f t n h s

pub inner_blocks_start : InnerBlocksStart
inner_blocks_start sc context ps level most ds ss pc from end over h i none exit l =
    let last : SlotsFollow sc context ps level most [] end = record { at = (end, over, none, stop, exit); shallow = tt; counts = tt } in
    let statements = items_follow sc context ps level most ss [] from end end i stop last (omega (arith, l)) in
    let uncounts : HasNoCounts (items ss []) = items_uncounted ss [] tt in
    let all : HasNoCounts (decls_items ds ++ items ss []) = decls_uncounted ds (items ss []) uncounts in
    bare_start sc context ps level most (decls_items ds ++ items ss []) pc all (record {
      at = decls_at sc context ps level ds (items ss []) pc from uncounts h statements.at;
      shallow = decls_shallow most ds (items ss []) uncounts (omega (arith, l)) statements.shallow;
      counts = none_wait (decls_items ds ++ items ss []) all;
    })

pub inner_blocks_follow : InnerBlocksFollow
inner_blocks_follow sc context ps level ds ss pc from end over h i none exit =
    let most : ℕ = stmts_depth ss in
    let last : SlotsFollow sc context ps level most [] end = record { at = (end, over, none, stop, exit); shallow = tt; counts = tt } in
    let statements = items_follow sc context ps level most ss [] from end end i stop last (omega arith) in
    decls_at sc context ps level ds (items ss []) pc from (items_uncounted ss [] tt) h statements.at

pub counts_have_room : CountsHaveRoom
counts_have_room sc context ps level most k pc f = omega (arith, pend_length k, counts_within most k f.shallow)
