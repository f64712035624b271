-- What the walk finds at parts one after another.
use Rattle.std.proofs.Common.{◌≡◌, ℕ, ◌+◌, ◌<◌, ◌≤◌, Bool, not, is_some, List, [], ◌∷◌, ◌++◌, map, length, drop, get_or, Option, Some, None, refl, ap, sym, ◌∙◌, append_assoc, append-nil, drop-cons, subst, add-one, zero, suc, slice_get, Result, Ok, Err, IfOk, true, false}
use Rattle.std.proofs.lemmas.Option.{slice_get_past, slice_get-get_or}
use Rattle.std.proofs.lemmas.Grind.{flat_map-append}
use Rattle.std.proofs.lemmas.List.{map-append}
use Rattle.std.specs.List.{flat_map}
use Rattle.std.specs.Borrow.{Bor}
use Rattle.std.specs.Option.{option_copied, MatchOption, IfSome}
use Rattle.algol_tree.specs.declared.refusal.Fault.{Fault}
use Rattle.b67_deeds.specs.declared.EventTest.{EventTest}
use Rattle.b67_deeds.specs.declared.EventTest.TheVariants as test
use Rattle.algol_tree.specs.declared.token.Spot.{Spot}
use Rattle.algol_tree.specs.declared.tree.Named.{Named}
use Rattle.algol_tree.specs.declared.tree.EventName.{EventName}
use Rattle.algol_tree.specs.Plain as tree
use Rattle.algol_tree.specs.Plain.{PExpr, PExprs, name_alone}
use Rattle.algol_tree.specs.Classes as classes
use Rattle.algol_tree.specs.Classes.{Class, Formal}
use Rattle.algol_tree.specs.Image.{expr, exprs, pairs}
use Rattle.algol_tree.specs.declared.tree.Expr.{Expr}
use Rattle.algol_tree.specs.declared.tree.Pair.{Pair}
use Rattle.algol_tree.specs.Blocks.{Block}
use Rattle.algol_tree.specs.Surroundings.{Surroundings, declared_as, formals_at}
use Rattle.algol_tree.specs.Sites as site
use Rattle.algol_tree.specs.Sites.{Site, sites, inside_list, inside_actuals, sites_in_pairs, here, actual_part_by, name_part, wants_value, first_formal, other_formals, inside_expr}
use Rattle.algol_tree.specs.Cells as cells
use Rattle.algol_tree.specs.Cells.{cells_at}
use Rattle.algol_tree.specs.Couples.{Known, known_at, known_by, known_names}
use Rattle.algol_tree.specs.declared.refusal.Code.TheVariants as codes
use Rattle.algol_tree.specs.Names.{if_so, places_if}
use Rattle.algol_tree.specs.Accepted.{broken, noted_all}
use Rattle.algol_rules.proofs.Order.{noted_all_append}
use Rattle.algol_known.specs.declared.known.Seen.{Seen}
use Rattle.algol_known.specs.declared.known.Seen.TheVariants as seens
use Rattle.algol_sorts.specs.declared.sort.Sort.{Sort}
use Rattle.algol_known.specs.declared.around.Around.{Around}
use Rattle.algol_tree.proofs.Alone.{named_alone}
use Rattle.algol_scope.specs.declared.findings.Findings.{Findings}
use Rattle.algol_known.specs.Seeing.{Sees, mode_of, mode_given}
use Rattle.algol_scope.specs.Noting.{FindingsAdd, ScopeFinds, ScopeWalks, ActualsPass, at_events, at_name, faults_at, noted_cell_of, task_parts, use_of}

-- ---- parts one after another

noted_append : (first now : Option Fault) (fs gs : List Fault) → now ≡ noted_all first fs → noted_all now gs ≡ noted_all first (fs ++ gs)
noted_append first now fs gs h = ap (λ z. noted_all z gs) h ∙ sym (noted_all_append first fs gs)

pub added : {A B : Type 0} (f : A → B) (old mid new : List B) (xs ys : List A) → mid ≡ old ++ map f xs → new ≡ mid ++ map f ys → new ≡ old ++ map f (xs ++ ys)
added f old mid new xs ys h k =
    k ∙ ap (λ z. z ++ map f ys) h ∙ append_assoc old (map f xs) (map f ys) ∙ ap (λ z. old ++ z) (sym (map-append f xs ys))

pub adds_then : (old mid new : Findings) (fs gs : List Fault) (cs ds : List cells.Cell) (us vs : List Known) → FindingsAdd old fs cs us mid → FindingsAdd mid gs ds vs new →
    FindingsAdd old (fs ++ gs) (cs ++ ds) (us ++ vs) new
adds_then old mid new fs gs cs ds us vs a b =
    record {
      faults = b.faults ∙ noted_append old.faults.first mid.faults.first fs gs a.faults;
      cells = added noted_cell_of old.cells.items mid.cells.items new.cells.items cs ds a.cells b.cells;
      uses = added use_of old.uses.items mid.uses.items new.uses.items us vs a.uses b.uses;
    }

pub adds_as : (old new : Findings) (fs gs : List Fault) (cs ds : List cells.Cell) (us vs : List Known) → fs ≡ gs → cs ≡ ds → us ≡ vs → FindingsAdd old fs cs us new →
    FindingsAdd old gs ds vs new
adds_as old new fs gs cs ds us vs f c u a =
    record {
      faults = a.faults ∙ ap (λ z. noted_all old.faults.first z) f;
      cells = a.cells ∙ ap (λ z. old.cells.items ++ map noted_cell_of z) c;
      uses = a.uses ∙ ap (λ z. old.uses.items ++ map use_of z) u;
    }

pub adds_none : (old : Findings) → FindingsAdd old [] [] [] old
adds_none old = record { faults = refl; cells = sym (append-nil old.cells.items); uses = sym (append-nil old.uses.items) }

pub finds_then : (blocks : List Block) (old mid new : Findings) (xs ys : List Site) → ScopeFinds blocks old xs mid → ScopeFinds blocks mid ys new → ScopeFinds blocks old (xs ++ ys) new
finds_then blocks old mid new xs ys f g =
    adds_as old new (flat_map (faults_at blocks) xs ++ flat_map (faults_at blocks) ys) (flat_map (faults_at blocks) (xs ++ ys))
    (flat_map (cells_at blocks) xs ++ flat_map (cells_at blocks) ys) (flat_map (cells_at blocks) (xs ++ ys))
    (flat_map (known_at blocks) xs ++ flat_map (known_at blocks) ys) (flat_map (known_at blocks) (xs ++ ys))
    (sym (flat_map-append (faults_at blocks) xs ys)) (sym (flat_map-append (cells_at blocks) xs ys)) (sym (flat_map-append (known_at blocks) xs ys))
    (adds_then old mid new (flat_map (faults_at blocks) xs) (flat_map (faults_at blocks) ys) (flat_map (cells_at blocks) xs) (flat_map (cells_at blocks) ys)
    (flat_map (known_at blocks) xs) (flat_map (known_at blocks) ys) f g)

pub again : (blocks : List Block) (old new : Findings) (xs ys : List Site) → flat_map (faults_at blocks) xs ≡ flat_map (faults_at blocks) ys →
    flat_map (cells_at blocks) xs ≡ flat_map (cells_at blocks) ys → flat_map (known_at blocks) xs ≡ flat_map (known_at blocks) ys → ScopeFinds blocks old xs new →
    ScopeFinds blocks old ys new
again blocks old new xs ys f c u h =
    adds_as old new (flat_map (faults_at blocks) xs) (flat_map (faults_at blocks) ys) (flat_map (cells_at blocks) xs) (flat_map (cells_at blocks) ys)
    (flat_map (known_at blocks) xs) (flat_map (known_at blocks) ys) f c u h

pub walks_then : (k : Around) (seen : Seen) (old mid new : Findings) (f g : Surroundings → List Site) →
    ScopeWalks k seen old mid f → ScopeWalks k seen mid new g → ScopeWalks k seen old new (λ a. f a ++ g a)
walks_then k seen old mid new f g v w =
    record { finds = λ blocks a s. finds_then blocks old mid new (f a) (g a) (v.finds blocks a s) (w.finds blocks a s) }

-- ---- a walk that has come so far: with what there is at the rest it finds what there is at all parts

abbrev pub Leads : List Block → Findings → List Site → Findings → List Site → Type 0
Leads blocks old all now rest = (new : Findings) → ScopeFinds blocks now rest new → ScopeFinds blocks old all new

pub leads_step : (blocks : List Block) (old now new : Findings) (all xs ys : List Site) → Leads blocks old all now (xs ++ ys) → ScopeFinds blocks now xs new →
    Leads blocks old all new ys
leads_step blocks old now new all xs ys l f = λ last g. l last (finds_then blocks now new last xs ys f g)

pub leads_end : (blocks : List Block) (old now : Findings) (all : List Site) → Leads blocks old all now [] → ScopeFinds blocks old all now
leads_end blocks old now all l = l now (adds_none now)

-- ---- a list of expressions

pub record Follows (k : Around) (seen : Seen) (old now : Findings) (all rest : Surroundings → List Site) : Type 0 where
  pub leads : (blocks : List Block) (a : Surroundings) → Sees k seen a → Leads blocks old (all a) now (rest a)

pub follows_step : (k : Around) (seen : Seen) (old now new : Findings) (all f g : Surroundings → List Site) →
    Follows k seen old now all (λ a. f a ++ g a) → ScopeWalks k seen now new f → Follows k seen old new all g
follows_step k seen old now new all f g l w =
    record { leads = λ blocks a s. leads_step blocks old now new (all a) (f a) (g a) (l.leads blocks a s) (w.finds blocks a s) }

pub follows_item : (k : Around) (seen : Seen) (old now new : Findings) (all : Surroundings → List Site) (es : List Expr) (i : ℕ) (e : Expr) → i < length es →
    e ≡ get_or es i e → Follows k seen old now all (inside_list (exprs (drop i es))) → ScopeWalks k seen now new (sites (expr e)) →
    Follows k seen old new all (inside_list (exprs (drop (i + 1) es)))
follows_item k seen old now new all es i e h same l w =
    rw add-one
    (follows_step k seen old now new all (sites (expr e)) (inside_list (exprs (drop (suc i) es)))
    (let at : drop i es ≡ e ∷ drop (suc i) es = drop-cons es i e h ∙ ap (λ z. z ∷ drop (suc i) es) (sym same) in
    let P : List Expr → Type 0 = λ z. Follows k seen old now all (inside_list (exprs z)) in
    let moved : P (e ∷ drop (suc i) es) = subst P at l in
    record { leads = λ blocks a s. moved.leads blocks a s })
    w)

pub follows_end : (k : Around) (seen : Seen) (old now : Findings) (all : Surroundings → List Site) (es : List Expr) → es ≡ [] →
    Follows k seen old now all (inside_list (exprs es)) → ScopeWalks k seen old now all
follows_end k seen old now all es h l =
    record {
      finds =
          λ blocks a s.
          let P : List Expr → Type 0 = λ z. Leads blocks old (all a) now (inside_list (exprs z) a) in
          leads_end blocks old now (all a) (subst P h (l.leads blocks a s));
    }

-- ---- the bounds of an array

pub bounds_end : (k : Around) (seen : Seen) (old now : Findings) (all : Surroundings → List Site) (ps : List Pair) → ps ≡ [] →
    Follows k seen old now all (sites_in_pairs (pairs ps)) → ScopeWalks k seen old now all
bounds_end k seen old now all ps h l =
    record {
      finds =
          λ blocks a s.
          let P : List Pair → Type 0 = λ z. Leads blocks old (all a) now (sites_in_pairs (pairs z) a) in
          leads_end blocks old now (all a) (subst P h (l.leads blocks a s));
    }

pub follows_bound : (k : Around) (seen : Seen) (old now new : Findings) (all : Surroundings → List Site) (ps : List Pair) (i : ℕ) (p : Pair) → i < length ps →
    p ≡ get_or ps i p → Follows k seen old now all (sites_in_pairs (pairs (drop i ps))) → ScopeWalks k seen now new (sites (expr p.high)) →
    Follows k seen old new all (sites_in_pairs (pairs (drop (i + 1) ps)))
follows_bound k seen old now new all ps i p h same l w =
    rw add-one
    (follows_step k seen old now new all (sites (expr p.high)) (sites_in_pairs (pairs (drop (suc i) ps)))
    (let at : drop i ps ≡ p ∷ drop (suc i) ps = drop-cons ps i p h ∙ ap (λ z. z ∷ drop (suc i) ps) (sym same) in
    let P : List Pair → Type 0 = λ z. Follows k seen old now all (sites_in_pairs (pairs z)) in
    let moved : P (p ∷ drop (suc i) ps) = subst P at l in
    record { leads = λ blocks a s. moved.leads blocks a s })
    w)

-- ---- actuals, with the parameters that are left

others_drop : (i : ℕ) (fs : List Formal) → other_formals (drop i fs) ≡ drop (suc i) fs
others_drop zero [] = refl
others_drop zero (f ∷ fs) = refl
others_drop (suc i) [] = refl
others_drop (suc i) (f ∷ fs) = others_drop i fs

mode_at : (fs : List Formal) (modes : List Sort) (i : ℕ) → modes ≡ map mode_of fs → slice_get modes i ≡ mode_given (first_formal (drop i fs))
mode_at fs modes i h = ap (λ z. slice_get z i) h ∙ given fs i
  where
    given : (fs : List Formal) (i : ℕ) → slice_get (map mode_of fs) i ≡ mode_given (first_formal (drop i fs))
    given [] zero = refl
    given [] (suc i) = refl
    given (f ∷ fs) zero = refl
    given (f ∷ fs) (suc i) = given fs i

abbrev actual_at : PExpr → Option Formal → Surroundings → Site
actual_at e f a = record { part = site.actual e f; around = a }

-- what there is at an actual, and at the expression that it is
abbrev one_by_one : PExpr → PExprs → List Formal → Surroundings → List Site
one_by_one e es fs a = (actual_at e (first_formal fs) a ∷ []) ++ (sites e a ++ inside_actuals es (other_formals fs) a)

-- What a walk looks for at an actual is at the expression that it is, where it is the same at a name and at that variable.
module _ {X : Type 0} (f : Site → List X)
    (same : (n : Named) (a : Surroundings) → f (record { part = site.name n; around = a }) ≡ f (here (tree.variable (tree.subscripted n tree.none)) a))
  where
    name_alike : (n : Named) (value : Bool) (a : Surroundings) →
        f (record { part = name_part n value; around = a }) ≡ f (here (tree.variable (tree.subscripted n tree.none)) a)
    name_alike n true a = refl
    name_alike n false a = same n a

    part_alike : (o : Option Named) (e : PExpr) (p : Option Formal) (a : Surroundings) → name_alone e ≡ o →
        f (record { part = actual_part_by o e p; around = a }) ≡ f (here e a)
    part_alike None e p a is = refl
    part_alike (Some n) e p a is = name_alike n (wants_value p) a ∙ ap (λ x. f (here x a)) (sym (named_alone e n is))

    actual_alike : (e : PExpr) (es : PExprs) (fs : List Formal) (a : Surroundings) →
        flat_map f (inside_actuals (tree.more e es) fs a) ≡ flat_map f (one_by_one e es fs a)
    actual_alike e es fs a =
        ap (λ xs. f (actual_at e (first_formal fs) a) ++ (xs ++ flat_map f (inside_expr e a ++ inside_actuals es (other_formals fs) a)))
        (part_alike (name_alone e) e (first_formal fs) a refl)

pub copied_get : (xs : List Sort) (i : ℕ) (r : Option (Bor Sort)) → MatchOption r (length xs ≤ i) (λ x. i < length xs) →
    IfSome r (λ x. x.now ≡ get_or xs i x.now) → option_copied r ≡ slice_get xs i
copied_get xs i None m f = sym (slice_get_past xs i m)
copied_get xs i (Some x) m f = ap (λ z. Some z) f ∙ sym (slice_get-get_or xs i x.now m)

pub get_within : (xs : List Sort) (i : ℕ) (r : Option (Bor Sort)) (P : Bor Sort → Type 0) →
    MatchOption r (length xs ≤ i) (λ x. (i < length xs) × P x) → MatchOption r (length xs ≤ i) (λ x. i < length xs)
get_within xs i None P m = m
get_within xs i (Some x) P m = m.0

pub record Passing (k : Around) (seen : Seen) (old now : Findings) (modes : List Sort) (es : PExprs) (i : ℕ) (rest : PExprs) : Type 0 where
  pub leads : (blocks : List Block) (a : Surroundings) (fs : List Formal) → Sees k seen a → modes ≡ map mode_of fs →
      Leads blocks old (inside_actuals es fs a) now (inside_actuals rest (drop i fs) a)

leads_split : (blocks : List Block) (old now : Findings) (all : List Site) (e : PExpr) (es : PExprs) (fs : List Formal) (a : Surroundings) →
    Leads blocks old all now (inside_actuals (tree.more e es) fs a) → Leads blocks old all now (one_by_one e es fs a)
leads_split blocks old now all e es fs a l =
    λ new f.
    l new
    (again blocks now new (one_by_one e es fs a) (inside_actuals (tree.more e es) fs a) (sym (actual_alike (faults_at blocks) (λ n b. refl) e es fs a))
    (sym (actual_alike (cells_at blocks) (λ n b. refl) e es fs a)) (sym (actual_alike (known_at blocks) (λ n b. refl) e es fs a)) f)

pub passing_item : (k : Around) (seen : Seen) (old now mid new : Findings) (modes : List Sort) (all : PExprs) (es : List Expr) (i : ℕ) (e : Expr) (mode : Option Sort) →
    i < length es → e ≡ get_or es i e → mode ≡ slice_get modes i → Passing k seen old now modes all i (exprs (drop i es)) →
    ((blocks : List Block) (a : Surroundings) (f : Option Formal) → Sees k seen a → mode ≡ mode_given f →
    ScopeFinds blocks now (record { part = site.actual (expr e) f; around = a } ∷ []) mid) →
    ScopeWalks k seen mid new (sites (expr e)) → Passing k seen old new modes all (i + 1) (exprs (drop (i + 1) es))
passing_item k seen old now mid new modes all es i e mode h same m l f w =
    rw add-one
    (record {
      leads =
          λ blocks a fs s given.
          let at : drop i es ≡ e ∷ drop (suc i) es = drop-cons es i e h ∙ ap (λ z. z ∷ drop (suc i) es) (sym same) in
          let rest : PExprs = exprs (drop (suc i) es) in
          let P : List Expr → Type 0 =
          λ z. Leads blocks old (inside_actuals all fs a) now (inside_actuals (exprs z) (drop i fs) a) in
          let split : Leads blocks old (inside_actuals all fs a) now (one_by_one (expr e) rest (drop i fs) a) =
          leads_split blocks old now (inside_actuals all fs a) (expr e) rest (drop i fs) a (subst P at (l.leads blocks a fs s given)) in
          let passed : Leads blocks old (inside_actuals all fs a) mid (sites (expr e) a ++ inside_actuals rest (other_formals (drop i fs)) a) =
          leads_step blocks old now mid (inside_actuals all fs a) (actual_at (expr e) (first_formal (drop i fs)) a ∷ [])
          (sites (expr e) a ++ inside_actuals rest (other_formals (drop i fs)) a) split
          (f blocks a (first_formal (drop i fs)) s (m ∙ mode_at fs modes i given)) in
          let walked : Leads blocks old (inside_actuals all fs a) new (inside_actuals rest (other_formals (drop i fs)) a) =
          leads_step blocks old mid new (inside_actuals all fs a) (sites (expr e) a)
          (inside_actuals rest (other_formals (drop i fs)) a) passed (w.finds blocks a s) in
          let Q : List Formal → Type 0 = λ z. Leads blocks old (inside_actuals all fs a) new (inside_actuals rest z a) in
          subst Q (others_drop i fs) walked;
    })

pub passing_end : (k : Around) (seen : Seen) (old now : Findings) (modes : List Sort) (all : PExprs) (i : ℕ) (es : List Expr) → es ≡ [] →
    Passing k seen old now modes all i (exprs es) → ActualsPass k seen old now modes all
passing_end k seen old now modes all i es h l =
    record {
      finds =
          λ blocks a fs s given.
          let P : List Expr → Type 0 =
          λ z. Leads blocks old (inside_actuals all fs a) now (inside_actuals (exprs z) (drop i fs) a) in
          leads_end blocks old now (inside_actuals all fs a) (subst P h (l.leads blocks a fs s given));
    }

-- ---- expressions of each form

pub if_ok : {A E : Type 0} (r : Result A E) {P Q : A → Type 0} → ((x : A) → P x → Q x) → IfOk r P → IfOk r Q
if_ok (Ok x) f h = f x h
if_ok (Err e) f h = tt

pub walks_asked : (k : Around) (seen : Seen) (old new : Findings) (t : EventTest) (e : EventName) (spot : Spot) →
    ScopeWalks k seen old new (λ a. at_name e.name a ∷ []) → ScopeWalks k seen old new (sites (tree.tested t (e ∷ []) spot))
walks_asked k seen old new t e spot w =
    record {
      finds =
          λ blocks a s.
          again blocks old new (at_name e.name a ∷ []) (sites (tree.tested t (e ∷ []) spot) a) refl refl refl (w.finds blocks a s);
    }

-- ---- the events of a wait for several

pub follows_event : (k : Around) (seen : Seen) (old now new : Findings) (all : Surroundings → List Site) (es : List EventName) (i : ℕ) (e : EventName) → i < length es →
    e ≡ get_or es i e → Follows k seen old now all (at_events (drop i es)) → ScopeWalks k seen now new (λ a. at_name e.name a ∷ []) →
    Follows k seen old new all (at_events (drop (i + 1) es))
follows_event k seen old now new all es i e h same l w =
    rw add-one
    (follows_step k seen old now new all (λ a. at_name e.name a ∷ []) (at_events (drop (suc i) es))
    (let at : drop i es ≡ e ∷ drop (suc i) es = drop-cons es i e h ∙ ap (λ z. z ∷ drop (suc i) es) (sym same) in
    let P : List EventName → Type 0 = λ z. Follows k seen old now all (at_events z) in
    let moved : P (e ∷ drop (suc i) es) = subst P at l in
    record { leads = λ blocks a s. moved.leads blocks a s })
    w)

pub events_end : (k : Around) (seen : Seen) (old now : Findings) (all : Surroundings → List Site) (es : List EventName) → es ≡ [] →
    Follows k seen old now all (at_events es) → ScopeWalks k seen old now all
events_end k seen old now all es h l =
    record {
      finds =
          λ blocks a s.
          let P : List EventName → Type 0 = λ z. Leads blocks old (all a) now (at_events z a) in
          leads_end blocks old now (all a) (subst P h (l.leads blocks a s));
    }

-- what there is at their names is at the wait
module _ (blocks : List Block) (a : Surroundings) where
  abbrev names_of : List EventName → List Named
  names_of es = map (λ (e : EventName). e.name) es

  abbrev unknown : Named → Bool
  unknown n = not (is_some (declared_as a n))

  faults_there : (es : List EventName) → flat_map (faults_at blocks) (at_events es a) ≡ broken codes.UnknownName (places_if unknown (names_of es))
  faults_there [] = refl
  faults_there (e ∷ es) =
      let p : List Spot = if_so (unknown e.name) e.name.spot in
      ap (λ xs. xs ++ flat_map (faults_at blocks) (at_events es a)) (append-nil (broken codes.UnknownName (p ++ [])) ∙ ap (broken codes.UnknownName) (append-nil p))
      ∙ ap (λ ys. broken codes.UnknownName p ++ ys) (faults_there es)
      ∙ sym (map-append _ p (places_if unknown (names_of es)))

  cells_there : (es : List EventName) → flat_map (cells_at blocks) (at_events es a) ≡ []
  cells_there [] = refl
  cells_there (e ∷ es) = cells_there es

  known_there : (es : List EventName) → flat_map (known_at blocks) (at_events es a) ≡ known_names a (names_of es)
  known_there [] = refl
  known_there (e ∷ es) =
      let p : List Known = known_by e.name.spot (declared_as a e.name) in
      ap (λ xs. xs ++ flat_map (known_at blocks) (at_events es a)) (append-nil p) ∙ ap (λ ys. p ++ ys) (known_there es)

pub walks_waited : (k : Around) (seen : Seen) (old new : Findings) (es : List EventName) (spot : Spot) → ScopeWalks k seen old new (at_events es) →
    ScopeWalks k seen old new (sites (tree.tested test.WaitAny es spot))
walks_waited k seen old new es spot w =
    record {
      finds =
          λ blocks a s.
          again blocks old new (at_events es a) (sites (tree.tested test.WaitAny es spot) a)
          (faults_there blocks a es ∙ sym (append-nil _ ∙ append-nil _)) (cells_there blocks a es) (known_there blocks a es ∙ sym (append-nil _))
          (w.finds blocks a s);
    }

pub walks_call : (k : Around) (seen : Seen) (old mid new : Findings) (n : Named) (modes : List Sort) (es : PExprs) →
    ScopeWalks k seen old mid (λ a. at_name n a ∷ []) → ((a : Surroundings) → Sees k seen a → modes ≡ map mode_of (formals_at a n)) →
    ActualsPass k seen mid new modes es → ScopeWalks k seen old new (λ a. at_name n a ∷ inside_actuals es (formals_at a n) a)
walks_call k seen old mid new n modes es v m w =
    record {
      finds =
          λ blocks a s.
          finds_then blocks old mid new (at_name n a ∷ []) (inside_actuals es (formals_at a n) a) (v.finds blocks a s)
          (w.finds blocks a (formals_at a n) s (m a s));
    }

pub walks_of : (k : Around) (seen : Seen) (old new : Findings) (e f : PExpr) → e ≡ f → ScopeWalks k seen old new (sites f) → ScopeWalks k seen old new (sites e)
walks_of k seen old new e f h w = let P : PExpr → Type 0 = λ z. ScopeWalks k seen old new (sites z) in subst P (sym h) w

pub walks_task : (k : Around) (old new : Findings) (task : Option Named) (n : Named) → task ≡ Some n → ScopeWalks k seens.All old new (λ a. at_name n a ∷ []) →
    ScopeWalks k seens.All old new (task_parts task)
walks_task k old new task n h w = let P : Option Named → Type 0 = λ z. ScopeWalks k seens.All old new (task_parts z) in subst P (sym h) w
