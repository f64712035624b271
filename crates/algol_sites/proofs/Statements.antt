-- What the walk notes of a statement is what the rules have for it, where the scopes tell of the names in it.
use Rattle.std.proofs.Common.{◌≡◌, ℕ, ◌+◌, ◌<◌, Bool, true, false, List, [], ◌∷◌, ◌++◌, length, drop, get_or, Option, Some, None, refl, ap, sym, ◌∙◌, subst}
use Rattle.std.specs.Prelude.{◌&&◌, not, if◌then◌else◌}
use Rattle.algol_tree.specs.declared.token.Spot.{Spot}
use Rattle.algol_tree.specs.declared.refusal.Code.TheVariants as codes
use Rattle.algol_tree.specs.declared.refusal.Fault.{Fault}
use Rattle.algol_tree.specs.declared.tree.Kind.{Kind}
use Rattle.algol_tree.specs.declared.tree.Kind.TheVariants as kinds
use Rattle.algol_tree.specs.declared.tree.Named.{Named}
use Rattle.algol_tree.specs.declared.tree.EventName.{EventName}
use Rattle.b67_deeds.specs.declared.EventAct.{EventAct}
use Rattle.algol_tree.specs.declared.tree.PhraseText.{PhraseText}
use Rattle.algol_tree.specs.declared.tree.Expr.{Expr}
use Rattle.algol_tree.specs.declared.tree.Pair.{Pair}
use Rattle.algol_tree.specs.declared.tree.Variable.{Variable}
use Rattle.algol_tree.specs.declared.tree.Call.{Call}
use Rattle.algol_tree.specs.Plain as tree
use Rattle.algol_tree.specs.Plain.{PExpr, PExprs, PStmt}
use Rattle.algol_tree.specs.Image.{expr, exprs, call, pairs, variable}
use Rattle.algol_tree.specs.Classes as class
use Rattle.algol_tree.specs.Classes.{Class, is_event, is_task, is_unspecified}
use Rattle.algol_tree.specs.Types.{read_type, element_type}
use Rattle.algol_tree.specs.Names.{if_so}
use Rattle.algol_tree.specs.Blocks.{Block}
use Rattle.algol_tree.specs.Surroundings.{Surroundings, class_of, formals_at}
use Rattle.algol_tree.specs.Sites as site
use Rattle.algol_tree.specs.Sites.{Site, sites, inside_list, inside_actuals, sites_in_pairs}
use Rattle.algol_tree.specs.Accepted.{noted_all}
use Rattle.algol_tree.proofs.Images.{call_is, variable_is}
use Rattle.b67_list.proofs.Lists.{drop_read}
use Rattle.algol_sites.specs.declared.place.Place.{Place}
use Rattle.algol_sites.specs.declared.wanted.Wanted.TheVariants as wanted
use Rattle.algol_sites.specs.Assigning.{can_take}
use Rattle.algol_sites.specs.Placing.{SiteIsPlaced}
use Rattle.algol_frames.specs.declared.scopes.Scopes.{Scopes}
use Rattle.algol_told.specs.Telling.{ScopesTell, TellsAll}
use Rattle.algol_sites.specs.Seeing.{Notes, NotesAt, TellsEach, TellsIn, TellsTask, stmt_parts, for_site}
use Rattle.algol_sites.specs.Noting.{rule_broken, broken_if, mistyped, mistyped_for, mistyped_list, noted_at, noted_along, noted_in}
use Rattle.algol_sites.specs.Wanting.{is_met, unfit, unfit_event}
use Rattle.algol_sites.specs.Lining.{noted_line}
use Rattle.algol_sites.specs.Expressing.{miscounted_actuals, miscounted_subscripts, noted_call}
use Rattle.algol_sites.specs.Stating.{noted_name_side, noted_element_side, noted_left, noted_process, noted_control, unfit_task, is_truth}
use Rattle.algol_sites.proofs.Notes.{noted_along_append}
use Rattle.algol_sites.proofs.Telling.{actuals_told, first_told, in_told, last_told, list_told, task_told as task_is_told}
use Rattle.algol_sites.proofs.Parts.{wrong_numbers, mistyped_list_is, count_of, counted, broken_pair, differing, differing_for, differing_noted, event_told}
use Rattle.algol_sites.proofs.Surrounded.{sites_same, list_same, actuals_same}
use Rattle.algol_sites.proofs.Within.{is_assignable, taken_told}

module _ (blocks : List Block) (a : Surroundings) where
  -- ---- parts of statements

  expression_on : (e : PExpr) (f g : Option Fault) → g ≡ noted_in f (sites e a) → g ≡ noted_along blocks f (sites e a)
  expression_on e f g h = h ∙ sym (sites_same blocks a e f)

  list_on : (es : PExprs) (f g : Option Fault) → g ≡ noted_in f (inside_list es a) → g ≡ noted_along blocks f (inside_list es a)
  list_on es f g h = h ∙ sym (list_same blocks a es f)

  actuals_on : (n : Named) (es : PExprs) (f g : Option Fault) → g ≡ noted_in f (inside_actuals es (formals_at a n) a) →
      g ≡ noted_along blocks f (inside_actuals es (formals_at a n) a)
  actuals_on n es f g h = h ∙ sym (actuals_same blocks a es (formals_at a n) f)

  abbrev own : PStmt → Bool → Site
  own s listed = record { part = site.statement s listed; around = a }

  -- ---- calls

  call_here : (n : Named) (es : List Expr) (listed : Bool) (f : Option Fault) →
      noted_call f wanted.Procedure n (length es) a ≡ noted_at blocks f (own (tree.call_of (tree.called n (exprs es))) listed)
  call_here n es listed f =
      ap (λ m. noted_all (noted_all f (unfit wanted.Procedure codes.WrongType n a)) (miscounted_actuals n m a)) (sym (counted es))

  -- ---- processes

  task_told : (task : Option Named) (f : Option Fault) (n : Named) (es : PExprs) (listed : Bool) →
      noted_all (noted_all (noted_all f (unfit wanted.Untyped codes.WrongType n a)) (unfit_task task a)) (miscounted_actuals n (count_of es) a) ≡
      noted_at blocks f (own (tree.process (tree.called n es) task) listed)
  task_told None f n es listed =
      let c = class_of a n in
      ap (λ o. noted_all o (miscounted_actuals n (count_of es) a)) (sym (broken_pair f (if_so (not (is_met wanted.Untyped c) && not (is_unspecified c)) n.spot) []))
  task_told (Some t) f n es listed =
      let c = class_of a n in
      let d = class_of a t in
      ap (λ o. noted_all o (miscounted_actuals n (count_of es) a))
      (sym (broken_pair f (if_so (not (is_met wanted.Untyped c) && not (is_unspecified c)) n.spot) (if_so (not (is_task d) && not (is_unspecified d)) t.spot)))

  process_here : (n : Named) (task : Option Named) (es : List Expr) (listed : Bool) (f : Option Fault) →
      noted_process f n task (length es) a ≡ noted_at blocks f (own (tree.process (tree.called n (exprs es)) task) listed)
  process_here n task es listed f =
      ap (λ m. noted_all (noted_all (noted_all f (unfit wanted.Untyped codes.WrongType n a)) (unfit_task task a)) (miscounted_actuals n m a)) (sym (counted es))
      ∙ task_told task f n (exprs es) listed

  -- ---- assignments

  abbrev left_type : Bool → Option Kind → Option Kind
  left_type t k = if t then k else None

  name_told : (t : Bool) (n : Named) (e : PExpr) (f : Option Fault) →
      noted_name_side f t n e a ≡
      noted_all (noted_all f (rule_broken codes.WrongType (differing_for (left_type t (read_type (class_of a n))) e a))) (rule_broken codes.NotAssignable (if_so (not t) n.spot))
  name_told true n e f = ap (noted_all f) (sym (differing_noted (read_type (class_of a n)) e a))
  name_told false n e f = refl

  element_told : (n : Named) (x : PExpr) (xs : PExprs) (e : PExpr) (listed : Bool) (f : Option Fault) →
      noted_element_side f n (tree.more x xs) (count_of (tree.more x xs)) e a ≡ noted_at blocks f (own (tree.assign (tree.subscripted n (tree.more x xs)) e) listed)
  element_told n x xs e listed f =
      let c = class_of a n in
      let es = tree.more x xs in
      let wrong = if_so (not (is_met wanted.Array c) && not (is_unspecified c)) n.spot in
      ap (λ o. noted_all o (miscounted_subscripts n (count_of es) a))
      (ap (λ fs. noted_all (noted_all (noted_all f (rule_broken codes.WrongType wrong)) fs) (mistyped_for (element_type c) e a)) (sym (mistyped_list_is es a))
      ∙ ap (noted_all (noted_all (noted_all f (rule_broken codes.WrongType wrong)) (rule_broken codes.WrongType (wrong_numbers es a)))) (sym (differing_noted (element_type c) e a))
      ∙ sym (broken_pair f (wrong ++ wrong_numbers es a) (differing_for (element_type c) e a)
      ∙ ap (λ o. noted_all o (rule_broken codes.WrongType (differing_for (element_type c) e a))) (broken_pair f wrong (wrong_numbers es a))))

  left_here : (place : Place) → SiteIsPlaced blocks place a → (n : Named) (es : List Expr) (e : PExpr) (listed : Bool) (f : Option Fault) →
      noted_left f (can_take place.block place.around.items) (tree.subscripted n (exprs es)) (length es) e a ≡
      noted_at blocks f (own (tree.assign (tree.subscripted n (exprs es)) e) listed)
  left_here place p n [] e listed f =
      ap (λ t. noted_name_side f t n e a) (taken_told blocks place a (class_of a n) p) ∙ name_told (is_assignable blocks (class_of a n) a) n e f
  left_here place p n (x ∷ xs) e listed f =
      ap (λ m. noted_element_side f n (exprs (x ∷ xs)) m e a) (sym (counted (x ∷ xs))) ∙ element_told n (expr x) (exprs xs) e listed f

  -- ---- events, lines and loops

  event_here : (act : EventAct) (e : EventName) (listed : Bool) (f : Option Fault) → noted_all f (unfit_event e a) ≡ noted_at blocks f (own (tree.event act e) listed)
  event_here act e listed f = ap (noted_all f) (sym (event_told e.task e.name (class_of a e.name)))

  write_here : (n : Named) (spot : Spot) (ps : List PhraseText) (es : List Expr) (listed : Bool) (f : Option Fault) →
      noted_line (noted_all (noted_all f (unfit wanted.File codes.WrongType n a)) (mistyped_list (exprs es) a)) ps (length es) spot ≡
      noted_at blocks f (own (tree.write n spot ps (exprs es)) listed)
  write_here n spot ps es listed f =
      let c = class_of a n in
      let wrong = if_so (not (is_met wanted.File c) && not (is_unspecified c)) n.spot in
      ap (λ m. noted_line (noted_all (noted_all f (unfit wanted.File codes.WrongType n a)) (mistyped_list (exprs es) a)) ps m spot) (sym (counted es))
      ∙ ap (λ o. noted_line o ps (count_of (exprs es)) spot)
      (ap (noted_all (noted_all f (unfit wanted.File codes.WrongType n a))) (sym (mistyped_list_is (exprs es) a))
      ∙ sym (broken_pair f wrong (wrong_numbers (exprs es) a)))

  abbrev wrong_control : Class → Named → List Spot
  wrong_control (class.simple kinds.Truth) v = v.spot ∷ []
  wrong_control _ v = []

  control_told : (c : Class) (v : Named) → broken_if codes.WrongType (is_truth c) v.spot ≡ rule_broken codes.WrongType (wrong_control c v)
  control_told (class.simple kinds.Number) v = refl
  control_told (class.simple kinds.Truth) v = refl
  control_told (class.array k n) v = refl
  control_told class.event v = refl
  control_told class.task v = refl
  control_told class.label v = refl
  control_told class.file v = refl
  control_told (class.procedure h) v = refl
  control_told class.unknown v = refl

  abbrev number_wanted : PExpr → List Spot
  number_wanted e = differing kinds.Number e a

  control_here : (v : Named) (x s l : PExpr) (body : PStmt) (listed : Bool) (f : Option Fault) →
      noted_control f v x s l a ≡ noted_at blocks f (for_site v x s l body listed a)
  control_here v x s l body listed f =
      ap (λ fs. noted_all (noted_all (noted_all (noted_all (noted_all f fs) (mistyped kinds.Number x a)) (mistyped kinds.Number s a)) (mistyped kinds.Number l a)) (unfit wanted.Simple codes.NotAssignable v a)) (control_told (class_of a v) v)
      ∙ ap (λ o. noted_all o (unfit wanted.Simple codes.NotAssignable v a))
      (sym (broken_pair f (wrong_control (class_of a v) v ++ number_wanted x ++ number_wanted s) (number_wanted l)
      ∙ ap (λ o. noted_all o (mistyped kinds.Number l a)) (broken_pair f (wrong_control (class_of a v) v ++ number_wanted x) (number_wanted s)
      ∙ ap (λ o. noted_all o (mistyped kinds.Number s a)) (broken_pair f (wrong_control (class_of a v) v) (number_wanted x)))))

-- ---- whole statements

module _ (s : Scopes) where
  pub assign_notes : (place : Place) (v : Variable) (e : Expr) (listed : Bool) (f g h k : Option Fault) →
      ((a : Surroundings) → ScopesTell s a v.name → TellsEach s a (exprs v.subs) → TellsIn s a (expr e) →
      g ≡ noted_left f (can_take place.block place.around.items) (variable v) (length v.subs) (expr e) a) →
      ((a : Surroundings) → TellsEach s a (exprs v.subs) → h ≡ noted_in g (inside_list (exprs v.subs) a)) →
      ((a : Surroundings) → TellsIn s a (expr e) → k ≡ noted_in h (sites (expr e) a)) →
      NotesAt s place f k (stmt_parts (tree.assign (variable v) (expr e)) listed)
  assign_notes place v e listed f g h k p q r =
      record {
        notes = λ blocks a t at.
            let own : Site = record { part = site.statement (tree.assign (tree.subscripted v.name (exprs v.subs)) (expr e)) listed; around = a } in
            let P : tree.PVariable → Type 0 = λ x. TellsAll s (stmt_parts (tree.assign x (expr e)) listed blocks a) in
            let told : P (tree.subscripted v.name (exprs v.subs)) = subst P (variable_is v) t in
            let subs = list_told s a (exprs v.subs) (first_told s (inside_list (exprs v.subs) a) (sites (expr e) a) told.1) in
            let value = in_told s a (expr e) (last_told s (inside_list (exprs v.subs) a) (sites (expr e) a) told.1) in
            expression_on blocks a (expr e) h k (r a value)
            ∙ ap (λ o. noted_along blocks o (sites (expr e) a)) (list_on blocks a (exprs v.subs) g h (q a subs))
            ∙ sym (noted_along_append blocks g (inside_list (exprs v.subs) a) (sites (expr e) a))
            ∙ ap (λ o. noted_along blocks o (inside_list (exprs v.subs) a ++ sites (expr e) a))
            (p a told.0.0 subs value ∙ ap (λ x. noted_left f (can_take place.block place.around.items) x (length v.subs) (expr e) a) (variable_is v)
            ∙ left_here blocks a place at v.name v.subs (expr e) listed f)
            ∙ sym (ap (λ x. noted_along blocks f (stmt_parts (tree.assign x (expr e)) listed blocks a)) (variable_is v));
      }

  pub call_notes : (c : Call) (listed : Bool) (f g h : Option Fault) →
      ((a : Surroundings) → ScopesTell s a c.name → g ≡ noted_call f wanted.Procedure c.name (length c.actuals) a) →
      ((a : Surroundings) → ScopesTell s a c.name → TellsEach s a (exprs c.actuals) → h ≡ noted_in g (inside_actuals (exprs c.actuals) (formals_at a c.name) a)) →
      Notes s f h (stmt_parts (tree.call_of (call c)) listed)
  call_notes c listed f g h p q =
      record {
        notes = λ blocks a t.
            let P : tree.PCall → Type 0 = λ x. TellsAll s (stmt_parts (tree.call_of x) listed blocks a) in
            let told : P (tree.called c.name (exprs c.actuals)) = subst P (call_is c) t in
            actuals_on blocks a c.name (exprs c.actuals) g h (q a told.0.0 (actuals_told s a (exprs c.actuals) (formals_at a c.name) told.1))
            ∙ ap (λ o. noted_along blocks o (inside_actuals (exprs c.actuals) (formals_at a c.name) a)) (p a told.0.0 ∙ call_here blocks a c.name c.actuals listed f)
            ∙ sym (ap (λ x. noted_along blocks f (stmt_parts (tree.call_of x) listed blocks a)) (call_is c));
      }

  pub process_notes : (c : Call) (task : Option Named) (listed : Bool) (f g h : Option Fault) →
      ((a : Surroundings) → ScopesTell s a c.name → TellsTask s a task → g ≡ noted_process f c.name task (length c.actuals) a) →
      ((a : Surroundings) → ScopesTell s a c.name → TellsEach s a (exprs c.actuals) → h ≡ noted_in g (inside_actuals (exprs c.actuals) (formals_at a c.name) a)) →
      Notes s f h (stmt_parts (tree.process (call c) task) listed)
  process_notes c task listed f g h p q =
      record {
        notes = λ blocks a t.
            let P : tree.PCall → Type 0 = λ x. TellsAll s (stmt_parts (tree.process x task) listed blocks a) in
            let told : P (tree.called c.name (exprs c.actuals)) = subst P (call_is c) t in
            actuals_on blocks a c.name (exprs c.actuals) g h (q a told.0.0 (actuals_told s a (exprs c.actuals) (formals_at a c.name) told.1))
            ∙ ap (λ o. noted_along blocks o (inside_actuals (exprs c.actuals) (formals_at a c.name) a))
            (p a told.0.0 (task_is_told s a task told.0.1) ∙ process_here blocks a c.name task c.actuals listed f)
            ∙ sym (ap (λ x. noted_along blocks f (stmt_parts (tree.process x task) listed blocks a)) (call_is c));
      }

  pub go_to_notes : (n : Named) (listed : Bool) (f g : Option Fault) →
      ((a : Surroundings) → ScopesTell s a n → g ≡ noted_all f (unfit wanted.Label codes.WrongType n a)) → Notes s f g (stmt_parts (tree.go_to n) listed)
  go_to_notes n listed f g p = record { notes = λ blocks a t. p a t.0.0 }

  pub event_notes : (act : EventAct) (e : EventName) (listed : Bool) (f g : Option Fault) →
      ((a : Surroundings) → ScopesTell s a e.name → g ≡ noted_all f (unfit_event e a)) → Notes s f g (stmt_parts (tree.event act e) listed)
  event_notes act e listed f g p = record { notes = λ blocks a t. p a t.0.0 ∙ event_here blocks a act e listed f }

  pub write_notes : (n : Named) (spot : Spot) (ps : List PhraseText) (es : List Expr) (listed : Bool) (f g h i j : Option Fault) →
      ((a : Surroundings) → ScopesTell s a n → g ≡ noted_all f (unfit wanted.File codes.WrongType n a)) →
      ((a : Surroundings) → TellsEach s a (exprs es) → h ≡ noted_all g (mistyped_list (exprs es) a)) → i ≡ noted_line h ps (length es) spot →
      ((a : Surroundings) → TellsEach s a (exprs es) → j ≡ noted_in i (inside_list (exprs es) a)) →
      Notes s f j (stmt_parts (tree.write n spot ps (exprs es)) listed)
  write_notes n spot ps es listed f g h i j p q r u =
      record {
        notes = λ blocks a t.
            let items = list_told s a (exprs es) t.1 in
            list_on blocks a (exprs es) i j (u a items)
            ∙ ap (λ o. noted_along blocks o (inside_list (exprs es) a))
            (r ∙ ap (λ o. noted_line o ps (length es) spot) (q a items ∙ ap (λ o. noted_all o (mistyped_list (exprs es) a)) (p a t.0.0))
            ∙ write_here blocks a n spot ps es listed f);
      }

  pub typed_notes : (k : Kind) (e : PExpr) (f g h : Option Fault) → ((a : Surroundings) → TellsIn s a e → g ≡ noted_all f (mistyped k e a)) →
      ((a : Surroundings) → TellsIn s a e → h ≡ noted_in g (sites e a)) →
      (blocks : List Block) (a : Surroundings) → TellsAll s (sites e a) → h ≡ noted_along blocks (noted_all f (mistyped k e a)) (sites e a)
  typed_notes k e f g h p q blocks a t =
      let told = in_told s a e t in
      expression_on blocks a e g h (q a told) ∙ ap (λ o. noted_along blocks o (sites e a)) (p a told)

  pub counting_notes : (v : Named) (x y l : PExpr) (f g h i j : Option Fault) →
      ((a : Surroundings) → ScopesTell s a v → TellsIn s a x → TellsIn s a y → TellsIn s a l → g ≡ noted_control f v x y l a) →
      ((a : Surroundings) → TellsIn s a x → h ≡ noted_in g (sites x a)) → ((a : Surroundings) → TellsIn s a y → i ≡ noted_in h (sites y a)) →
      ((a : Surroundings) → TellsIn s a l → j ≡ noted_in i (sites l a)) →
      (blocks : List Block) (a : Surroundings) (body : PStmt) (listed : Bool) → ScopesTell s a v → TellsAll s (sites x a ++ sites y a ++ sites l a) →
      j ≡ noted_along blocks (noted_at blocks f (for_site v x y l body listed a)) (sites x a ++ sites y a ++ sites l a)
  counting_notes v x y l f g h i j p q r u blocks a body listed name t =
      let o = noted_at blocks f (for_site v x y l body listed a) in
      let two = first_told s (sites x a ++ sites y a) (sites l a) t in
      let tx = in_told s a x (first_told s (sites x a) (sites y a) two) in
      let ty = in_told s a y (last_told s (sites x a) (sites y a) two) in
      let tl = in_told s a l (last_told s (sites x a ++ sites y a) (sites l a) t) in
      expression_on blocks a l i j (u a tl)
      ∙ ap (λ z. noted_along blocks z (sites l a)) (expression_on blocks a y h i (r a ty)
      ∙ ap (λ z. noted_along blocks z (sites y a)) (expression_on blocks a x g h (q a tx)
      ∙ ap (λ z. noted_along blocks z (sites x a)) (p a name tx ty tl ∙ control_here blocks a v x y l body listed f)))
      ∙ ap (λ z. noted_along blocks z (sites l a)) (sym (noted_along_append blocks o (sites x a) (sites y a)))
      ∙ sym (noted_along_append blocks o (sites x a ++ sites y a) (sites l a))

-- ---- the left side, by its subscripts

side_by : (t : Bool) (n : Named) (e : PExpr) (a : Surroundings) (f : Option Fault) →
    noted_all (noted_all f (mistyped_for (if t then read_type (class_of a n) else None) e a)) (broken_if codes.NotAssignable (not t) n.spot) ≡ noted_name_side f t n e a
side_by true n e a f = refl
side_by false n e a f = refl

pub side_noted : (t b : Bool) (k : Option Kind) (n : Named) (e : PExpr) (a : Surroundings) (f g h : Option Fault) → b ≡ t →
    k ≡ (if b then read_type (class_of a n) else None) → g ≡ noted_all f (mistyped_for k e a) → h ≡ noted_all g (broken_if codes.NotAssignable (not b) n.spot) →
    h ≡ noted_name_side f t n e a
side_noted t b k n e a f g h p q r u =
    u ∙ ap (λ o. noted_all o (broken_if codes.NotAssignable (not b) n.spot)) (r ∙ ap (λ z. noted_all f (mistyped_for z e a)) q)
    ∙ ap (λ z. noted_all (noted_all f (mistyped_for (if z then read_type (class_of a n) else None) e a)) (broken_if codes.NotAssignable (not z) n.spot)) p
    ∙ side_by t n e a f

pub left_none : (v : Variable) (e : PExpr) (takes : Class → Bool) (s : Surroundings) (f g : Option Fault) → v.subs ≡ [] →
    g ≡ noted_name_side f (takes (class_of s v.name)) v.name e s → g ≡ noted_left f takes (variable v) (length v.subs) e s
left_none v e takes s f g p h =
    h
    ∙ sym (ap (λ x. noted_left f takes x (length v.subs) e s) (variable_is v) ∙ ap (λ es. noted_left f takes (tree.subscripted v.name (exprs es)) (length es) e s) p)

pub left_some : (v : Variable) (e : PExpr) (takes : Class → Bool) (s : Surroundings) (f g : Option Fault) (xs ys : List Expr) (y : Expr) (zs : List Expr) → xs ≡ y ∷ zs →
    xs ≡ v.subs → ys ≡ v.subs → g ≡ noted_element_side f v.name (exprs ys) (length ys) e s → g ≡ noted_left f takes (variable v) (length v.subs) e s
left_some v e takes s f g xs ys y zs p q r h =
    h ∙ ap (λ es. noted_element_side f v.name (exprs es) (length es) e s) (r ∙ sym q ∙ p)
    ∙ sym (ap (λ x. noted_left f takes x (length v.subs) e s) (variable_is v) ∙ ap (λ es. noted_left f takes (tree.subscripted v.name (exprs es)) (length es) e s) (sym q ∙ p))

-- ---- one more bound

pub bound_step : (blocks : List Block) (a : Surroundings) (ps : List Pair) (i : ℕ) (p : Pair) (f g : Option Fault) → i < length ps → p ≡ get_or ps i p →
    g ≡ noted_along blocks (noted_all f (mistyped kinds.Number (expr p.high) a)) (sites (expr p.high) a) →
    noted_along blocks g (sites_in_pairs (pairs (drop (i + 1) ps)) a) ≡ noted_along blocks f (sites_in_pairs (pairs (drop i ps)) a)
bound_step blocks a ps i p f g h e q =
    ap (λ o. noted_along blocks o (sites_in_pairs (pairs (drop (i + 1) ps)) a)) q
    ∙ sym (noted_along_append blocks (noted_all f (mistyped kinds.Number (expr p.high) a)) (sites (expr p.high) a) (sites_in_pairs (pairs (drop (i + 1) ps)) a))
    ∙ sym (ap (λ xs. noted_along blocks f (sites_in_pairs (pairs xs) a)) (drop_read ps i p h e))

pub bound_split : (s : Scopes) (a : Surroundings) (ps : List Pair) (i : ℕ) (p : Pair) → i < length ps → p ≡ get_or ps i p →
    TellsAll s (sites_in_pairs (pairs (drop i ps)) a) → TellsAll s (sites (expr p.high) a) × TellsAll s (sites_in_pairs (pairs (drop (i + 1) ps)) a)
bound_split s a ps i p h e t =
    let P : List Pair → Type 0 = λ xs. TellsAll s (sites_in_pairs (pairs xs) a) in
    let k : P (p ∷ drop (i + 1) ps) = subst P (drop_read ps i p h e) t in
    let rest = sites_in_pairs (pairs (drop (i + 1) ps)) a in
    (first_told s (sites (expr p.high) a) rest k.1, last_told s (sites (expr p.high) a) rest k.1)

pub bounds_end : (blocks : List Block) (a : Surroundings) (ps : List Pair) (i : ℕ) (f g : Option Fault) → drop i ps ≡ [] →
    noted_along blocks f (sites_in_pairs (pairs (drop i ps)) a) ≡ g → f ≡ g
bounds_end blocks a ps i f g e h = sym (ap (λ xs. noted_along blocks f (sites_in_pairs (pairs xs) a)) e) ∙ h
