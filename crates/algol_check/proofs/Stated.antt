-- Walks over statements, by what they are made of.
use Rattle.std.proofs.Common.{◌≡◌, List, [], ◌∷◌, ◌++◌, Bool, false, Option, refl, ap, sym, ◌∙◌, subst, append_assoc, append-nil, map}
use Rattle.std.proofs.lemmas.Grind.{flat_map-append}
use Rattle.std.proofs.lemmas.List.{map-append}
use Rattle.std.specs.declared.vec.Vec.{Vec}
use Rattle.std.specs.List.{flat_map}
use Rattle.std.specs.declared.alloc.Global.{Global}
use Rattle.algol_tree.specs.declared.token.Spot.{Spot}
use Rattle.algol_tree.specs.declared.refusal.Code.TheVariants as codes
use Rattle.algol_tree.specs.declared.tree.Kind.TheVariants as kinds
use Rattle.algol_tree.specs.declared.tree.Named.{Named}
use Rattle.b67_deeds.specs.declared.EventAct.{EventAct}
use Rattle.algol_tree.specs.declared.tree.EventName.{EventName}
use Rattle.algol_tree.specs.declared.tree.PhraseText.{PhraseText}
use Rattle.algol_tree.specs.Plain as tree
use Rattle.algol_tree.specs.Plain.{PExpr, PExprs, PVariable, PCall, PBody, PStmt, PStmts}
use Rattle.algol_tree.specs.Blocks.{Begin, of_statement, Block, begin_block, begin_outer, blocks_of, blocks_in_body, blocks_in_stmts}
use Rattle.algol_tree.specs.Surroundings.{Surroundings, formals_at, inside}
use Rattle.algol_tree.specs.Cells.{first_spot}
use Rattle.algol_tree.specs.Names.{if_so}
use Rattle.algol_tree.specs.Types.{type_of}
use Rattle.algol_tree.specs.Sites.{Site, sites, inside_list, inside_actuals, here_stmt, sites_in_stmts}
use Rattle.algol_tree.specs.Accepted.{noted_all}
use Rattle.algol_rules.specs.declared.fault.Faults.{Faults}
use Rattle.algol_frames.specs.declared.scopes.Scopes.{Scopes}
use Rattle.algol_told.specs.Telling.{ScopesTell, TellsAll}
use Rattle.algol_sites.specs.declared.label.Standing.{Standing}
use Rattle.algol_sites.specs.declared.place.Place.{Place}
use Rattle.algol_sites.specs.declared.wanted.Wanted.TheVariants as wanted
use Rattle.algol_sites.specs.Labelling.{label_site, standing_as, standings_at, labels_at}
use Rattle.algol_sites.specs.Noting.{differs, mistyped, noted_along, noted_at}
use Rattle.algol_sites.specs.Placing.{SiteIsPlaced, BlockNumbers, outer_of}
use Rattle.algol_sites.specs.Seeing.{Notes, NotesAt, stmt_parts, for_site}
use Rattle.algol_sites.specs.Wanting.{unfit}
use Rattle.algol_sites.proofs.Notes.{noted_along_append}
use Rattle.algol_sites.proofs.Telling.{first_told, last_told}
use Rattle.algol_sites.proofs.Whole.{noted_later}
use Rattle.algol_check.specs.declared.checker.Checker.{Checker}
use Rattle.algol_check.specs.Walking.{PlaceIsAt, IsTyped, PartsNoted, CheckWalks, WalksBody, WalksStmt, WalksStmts, no_blocks, stmt_sites}
use Rattle.algol_check.specs.Declaring.{PlaceEnters}
use Rattle.algol_check.proofs.Silent.{IsSilent, silent_both, list_silent, actuals_silent, sites_silent}
use Rattle.algol_check.proofs.Walked.{found_alike, found_both, walks_both, walks_none, walks_silent}

module _ (scopes : Scopes) where
  -- ---- statements without statements in them

  -- one more part, at which no label stands
  abbrev IsQuiet : Site → Type 0
  IsQuiet x = IsSilent (x ∷ [])

  after : (x : Site) (xs : List Site) → IsQuiet x → IsSilent xs → IsSilent (x ∷ xs)
  after x xs q h = silent_both (x ∷ []) xs q h

  pub empty_walks : (c : Checker) (begin : Begin) (listed : Bool) → WalksStmt scopes c c tree.empty begin listed
  empty_walks c begin listed =
      walks_silent scopes c c.faults (stmt_sites tree.empty begin listed) (λ blocks a. record { labels = refl; standings = refl }) (λ blocks a at t. refl)

  pub assign_walks : (c : Checker) (f : Faults) (v : PVariable) (e : PExpr) (begin : Begin) (listed : Bool) →
      NotesAt scopes c.place c.faults.first f.first (stmt_parts (tree.assign v e) listed) → WalksStmt scopes c (record c { faults = f }) (tree.assign v e) begin listed
  assign_walks c f (tree.subscripted n es) e begin listed h =
      walks_silent scopes c f (stmt_sites (tree.assign (tree.subscripted n es) e) begin listed)
      (λ blocks a. after (here_stmt (tree.assign (tree.subscripted n es) e) listed a) (inside_list es a ++ sites e a) (record { labels = refl; standings = refl })
      (silent_both (inside_list es a) (sites e a) (list_silent a es) (sites_silent a e)))
      (λ blocks a at t. h.notes blocks a t at.placed)

  pub call_walks : (c : Checker) (f : Faults) (k : PCall) (begin : Begin) (listed : Bool) →
      Notes scopes c.faults.first f.first (stmt_parts (tree.call_of k) listed) → WalksStmt scopes c (record c { faults = f }) (tree.call_of k) begin listed
  call_walks c f (tree.called n es) begin listed h =
      walks_silent scopes c f (stmt_sites (tree.call_of (tree.called n es)) begin listed)
      (λ blocks a. after (here_stmt (tree.call_of (tree.called n es)) listed a) (inside_actuals es (formals_at a n) a) (record { labels = refl; standings = refl })
      (actuals_silent a es (formals_at a n)))
      (λ blocks a at t. h.notes blocks a t)

  pub process_walks : (c : Checker) (f : Faults) (k : PCall) (task : Option Named) (begin : Begin) (listed : Bool) →
      Notes scopes c.faults.first f.first (stmt_parts (tree.process k task) listed) → WalksStmt scopes c (record c { faults = f }) (tree.process k task) begin listed
  process_walks c f (tree.called n es) task begin listed h =
      walks_silent scopes c f (stmt_sites (tree.process (tree.called n es) task) begin listed)
      (λ blocks a. after (here_stmt (tree.process (tree.called n es) task) listed a) (inside_actuals es (formals_at a n) a) (record { labels = refl; standings = refl })
      (actuals_silent a es (formals_at a n)))
      (λ blocks a at t. h.notes blocks a t)

  pub go_to_walks : (c : Checker) (f : Faults) (n : Named) (begin : Begin) (listed : Bool) →
      Notes scopes c.faults.first f.first (stmt_parts (tree.go_to n) listed) → WalksStmt scopes c (record c { faults = f }) (tree.go_to n) begin listed
  go_to_walks c f n begin listed h =
      walks_silent scopes c f (stmt_sites (tree.go_to n) begin listed) (λ blocks a. record { labels = refl; standings = refl }) (λ blocks a at t. h.notes blocks a t)

  pub event_walks : (c : Checker) (f : Faults) (act : EventAct) (e : EventName) (begin : Begin) (listed : Bool) →
      Notes scopes c.faults.first f.first (stmt_parts (tree.event act e) listed) → WalksStmt scopes c (record c { faults = f }) (tree.event act e) begin listed
  event_walks c f act e begin listed h =
      walks_silent scopes c f (stmt_sites (tree.event act e) begin listed) (λ blocks a. record { labels = refl; standings = refl }) (λ blocks a at t. h.notes blocks a t)

  pub write_walks : (c : Checker) (f : Faults) (n : Named) (spot : Spot) (ps : List PhraseText) (es : PExprs) (begin : Begin) (listed : Bool) →
      Notes scopes c.faults.first f.first (stmt_parts (tree.write n spot ps es) listed) → WalksStmt scopes c (record c { faults = f }) (tree.write n spot ps es) begin listed
  write_walks c f n spot ps es begin listed h =
      walks_silent scopes c f (stmt_sites (tree.write n spot ps es) begin listed)
      (λ blocks a. after (here_stmt (tree.write n spot ps es) listed a) (inside_list es a) (record { labels = refl; standings = refl }) (list_silent a es))
      (λ blocks a at t. h.notes blocks a t)

  -- a label, and how it stands there
  pub label_kept : (c : Checker) (f : Faults) (v : Vec Standing Global) (n : Named) (listed : Bool) (more : List Standing) (s : PStmt) →
      ((a : Surroundings) → ScopesTell scopes a n → f.first ≡ noted_all c.faults.first (unfit wanted.Label codes.WrongType n a)) → v.items ≡ c.standings.items ++ more →
      ((blocks : List Block) (a : Surroundings) (s' : PStmt) → ScopesTell scopes a n → BlockNumbers scopes blocks → SiteIsPlaced blocks c.place a →
      map standing_as more ≡ standings_at (label_site n s' listed a)) →
      CheckWalks scopes c (record c { faults = f; standings = v }) no_blocks (λ blocks a. label_site n s listed a ∷ [])
  label_kept c f v n listed more s p q h =
      record {
        stays = record { block = refl; outer = refl };
        notes =
            λ blocks a at t found.
            let here = label_site n s listed a in
            record {
              faults = p a t.0.0;
              labels = sym (append-nil c.labels.items);
              standings =
                  ap (map standing_as) q ∙ map-append standing_as c.standings.items more
                  ∙ ap (λ ss. map standing_as c.standings.items ++ ss) (h blocks a s t.0.0 at.numbers at.placed ∙ sym (append-nil (standings_at here)));
            };
      }

  -- ---- statements with statements in them

  led : (c d : Checker) (f : Faults) (inner : List Spot → List Block) (own : Surroundings → Site) (ts : Surroundings → List Site) (ys : List Block → Surroundings → List Site) →
      ((a : Surroundings) → IsQuiet (own a)) → ((a : Surroundings) → IsSilent (ts a)) →
      ((blocks : List Block) (a : Surroundings) → TellsAll scopes (own a ∷ ts a) → f.first ≡ noted_along blocks (noted_at blocks c.faults.first (own a)) (ts a)) →
      CheckWalks scopes (record c { faults = f }) d inner ys → CheckWalks scopes c d inner (λ blocks a. own a ∷ (ts a ++ ys blocks a))
  led c d f inner own ts ys q s h w =
      walks_both scopes c (record c { faults = f }) d no_blocks inner (λ blocks a. own a ∷ ts a) ys
      (walks_silent scopes c f (λ blocks a. own a ∷ ts a) (λ blocks a. after (own a) (ts a) (q a) (s a)) (λ blocks a at t. h blocks a t)) w

  pub if_then_walks : (c d : Checker) (f : Faults) (e : PExpr) (x : PStmt) (begin : Begin) (listed : Bool) → IsTyped scopes c f kinds.Truth e →
      WalksStmt scopes (record c { faults = f }) d x of_statement false → WalksStmt scopes c d (tree.if_then e x) begin listed
  if_then_walks c d f e x begin listed h w =
      led c d f (blocks_of x of_statement) (λ a. here_stmt (tree.if_then e x) listed a) (λ a. sites e a) (stmt_sites x of_statement false)
      (λ a. record { labels = refl; standings = refl }) (λ a. sites_silent a e) (λ blocks a t. h blocks a t.1) w

  pub while_walks : (c d : Checker) (f : Faults) (e : PExpr) (x : PStmt) (begin : Begin) (listed : Bool) → IsTyped scopes c f kinds.Truth e →
      WalksStmt scopes (record c { faults = f }) d x of_statement false → WalksStmt scopes c d (tree.while e x) begin listed
  while_walks c d f e x begin listed h w =
      led c d f (blocks_of x of_statement) (λ a. here_stmt (tree.while e x) listed a) (λ a. sites e a) (stmt_sites x of_statement false)
      (λ a. record { labels = refl; standings = refl }) (λ a. sites_silent a e) (λ blocks a t. h blocks a t.1) w

  pub thru_walks : (c d : Checker) (f : Faults) (e : PExpr) (x : PStmt) (begin : Begin) (listed : Bool) → IsTyped scopes c f kinds.Number e →
      WalksStmt scopes (record c { faults = f }) d x of_statement false → WalksStmt scopes c d (tree.thru e x) begin listed
  thru_walks c d f e x begin listed h w =
      led c d f (blocks_of x of_statement) (λ a. here_stmt (tree.thru e x) listed a) (λ a. sites e a) (stmt_sites x of_statement false)
      (λ a. record { labels = refl; standings = refl }) (λ a. sites_silent a e) (λ blocks a t. h blocks a t.1) w

  pub case_walks : (c d : Checker) (f : Faults) (e : PExpr) (ss : PStmts) (begin : Begin) (listed : Bool) → IsTyped scopes c f kinds.Number e →
      WalksStmts scopes (record c { faults = f }) d ss false → WalksStmt scopes c d (tree.case e ss) begin listed
  case_walks c d f e ss begin listed h w =
      led c d f (blocks_in_stmts ss) (λ a. here_stmt (tree.case e ss) listed a) (λ a. sites e a) (λ blocks a. sites_in_stmts blocks ss false a)
      (λ a. record { labels = refl; standings = refl }) (λ a. sites_silent a e) (λ blocks a t. h blocks a t.1) w

  pub for_walks : (c d : Checker) (f : Faults) (v : Named) (x s l : PExpr) (b : PStmt) (begin : Begin) (listed : Bool) →
      ((blocks : List Block) (a : Surroundings) (s' : PStmt) (listed' : Bool) → ScopesTell scopes a v → TellsAll scopes (sites x a ++ sites s a ++ sites l a) →
      f.first ≡ noted_along blocks (noted_at blocks c.faults.first (for_site v x s l s' listed' a)) (sites x a ++ sites s a ++ sites l a)) →
      WalksStmt scopes (record c { faults = f }) d b of_statement false → WalksStmt scopes c d (tree.for v x s l b) begin listed
  for_walks c d f v x s l b begin listed h w =
      led c d f (blocks_of b of_statement) (λ a. here_stmt (tree.for v x s l b) listed a) (λ a. sites x a ++ sites s a ++ sites l a) (stmt_sites b of_statement false)
      (λ a. record { labels = refl; standings = refl })
      (λ a. silent_both (sites x a ++ sites s a) (sites l a) (silent_both (sites x a) (sites s a) (sites_silent a x) (sites_silent a s)) (sites_silent a l))
      (λ blocks a t. h blocks a b listed t.0.0 t.1) w

  -- the same parts in other words
  walks_as : (c d : Checker) (i : List Spot → List Block) (xs ys : List Block → Surroundings → List Site) → ((blocks : List Block) (a : Surroundings) → xs blocks a ≡ ys blocks a) →
      CheckWalks scopes c d i xs → CheckWalks scopes c d i ys
  walks_as c d i xs ys e w =
      record {
        stays = w.stays;
        notes =
            λ blocks a at t f.
            let P : List Site → Type 0 = PartsNoted blocks c d in
            let Q : List Site → Type 0 = TellsAll scopes in
            subst P (e blocks a) (w.notes blocks a at (subst Q (sym (e blocks a)) t) f);
      }

  pub if_else_walks : (c d e : Checker) (f : Faults) (t : PExpr) (x y : PStmt) (begin : Begin) (listed : Bool) → IsTyped scopes c f kinds.Truth t →
      WalksStmt scopes (record c { faults = f }) d x of_statement false → WalksStmt scopes d e y of_statement false → WalksStmt scopes c e (tree.if_else t x y) begin listed
  if_else_walks c d e f t x y begin listed h w v =
      let own : Surroundings → Site = λ a. here_stmt (tree.if_else t x y) listed a in
      walks_as c e (λ outer. blocks_of x of_statement outer ++ blocks_of y of_statement outer)
      (λ blocks a. own a ∷ (sites t a ++ (stmt_sites x of_statement false blocks a ++ stmt_sites y of_statement false blocks a)))
      (stmt_sites (tree.if_else t x y) begin listed)
      (λ blocks a. ap (λ xs. own a ∷ xs) (sym (append_assoc (sites t a) (stmt_sites x of_statement false blocks a) (stmt_sites y of_statement false blocks a))))
      (led c e f (λ outer. blocks_of x of_statement outer ++ blocks_of y of_statement outer) own (λ a. sites t a)
      (λ blocks a. stmt_sites x of_statement false blocks a ++ stmt_sites y of_statement false blocks a)
      (λ a. record { labels = refl; standings = refl }) (λ a. sites_silent a t) (λ blocks a k. h blocks a k.1)
      (walks_both scopes (record c { faults = f }) d e (blocks_of x of_statement) (blocks_of y of_statement) (stmt_sites x of_statement false) (stmt_sites y of_statement false) w v))

  unheard : {A : Type 0} (g : Site → List A) (xs ys : List Site) → flat_map g ys ≡ [] → flat_map g (xs ++ ys) ≡ flat_map g xs
  unheard g xs ys e = flat_map-append g xs ys ∙ ap (λ zs. flat_map g xs ++ zs) e ∙ append-nil (flat_map g xs)

  pub until_walks : (c d : Checker) (f : Faults) (b : PStmt) (t : PExpr) (begin : Begin) (listed : Bool) → WalksStmt scopes c d b of_statement false → IsTyped scopes d f kinds.Truth t →
      WalksStmt scopes c (record d { faults = f }) (tree.until b t) begin listed
  until_walks c d f b t begin listed w h =
      record {
        stays = record { block = w.stays.block; outer = w.stays.outer };
        notes =
            λ blocks a at told found.
            let xs = stmt_sites b of_statement false blocks a in
            let here = w.notes blocks a at (first_told scopes xs (sites t a) told.1) found in
            let wrong = if_so (differs kinds.Truth (type_of t a)) (first_spot t) in
            let quiet = sites_silent a t in
            record {
              faults =
                  h blocks a (last_told scopes xs (sites t a) told.1)
                  ∙ ap (λ o. noted_along blocks (noted_all o (mistyped kinds.Truth t a)) (sites t a)) here.faults
                  ∙ ap (λ o. noted_along blocks o (sites t a)) (sym (noted_later blocks c.faults.first wrong xs))
                  ∙ sym (noted_along_append blocks (noted_all c.faults.first (mistyped kinds.Truth t a)) xs (sites t a));
              labels = here.labels ∙ ap (λ ls. c.labels.items ++ ls) (sym (unheard labels_at xs (sites t a) quiet.labels));
              standings = here.standings ∙ ap (λ ss. map standing_as c.standings.items ++ ss) (sym (unheard standings_at xs (sites t a) quiet.standings));
            };
      }

  pub label_walks : (c d e : Checker) (n : Named) (s : PStmt) (begin : Begin) (listed : Bool) →
      CheckWalks scopes c d no_blocks (λ blocks a. here_stmt (tree.label n s) listed a ∷ []) → WalksStmt scopes d e s of_statement listed → WalksStmt scopes c e (tree.label n s) begin listed
  label_walks c d e n s begin listed h w =
      walks_both scopes c d e no_blocks (blocks_of s of_statement) (λ blocks a. here_stmt (tree.label n s) listed a ∷ []) (stmt_sites s of_statement listed) h w

  -- ---- blocks

  pub block_walks : (c : Checker) (p : Place) (d : Checker) (q : Place) (b : PBody) (begin : Begin) (listed : Bool) → PlaceEnters c.place p b begin →
      WalksBody scopes (record c { place = p }) d b → q.block ≡ c.place.block → q.around.items ≡ c.place.around.items →
      WalksStmt scopes c (record d { place = q }) (tree.block b) begin listed
  block_walks c p d q b begin listed en w qb qo =
      record {
        stays = record { block = qb; outer = qo };
        notes =
            λ blocks a at t found.
            let fs = found_both blocks (begin_block begin b (outer_of c.place)) (blocks_in_body b (begin_outer begin b (outer_of c.place))) found in
            let entered : PlaceIsAt scopes blocks p (inside blocks begin b a) = record { placed = en.placed blocks a at.placed fs.0; numbers = at.numbers } in
            let n = w.notes blocks (inside blocks begin b a) entered t.1 (found_alike blocks (blocks_in_body b (begin_outer begin b (outer_of c.place))) (blocks_in_body b (outer_of p)) (ap (blocks_in_body b) (sym en.outer)) fs.1) in
            record { faults = n.faults; labels = n.labels; standings = n.standings };
      }

  -- ---- lists of statements

  pub stmts_end : (c : Checker) (listed : Bool) → WalksStmts scopes c c tree.no_stmts listed
  stmts_end c listed = walks_none scopes c

  pub stmts_more : (c d e : Checker) (s : PStmt) (ss : PStmts) (listed : Bool) → WalksStmt scopes c d s of_statement listed → WalksStmts scopes d e ss listed →
      WalksStmts scopes c e (tree.stmts s ss) listed
  stmts_more c d e s ss listed h w =
      walks_both scopes c d e (blocks_of s of_statement) (blocks_in_stmts ss) (stmt_sites s of_statement listed) (λ blocks a. sites_in_stmts blocks ss listed a) h w
