-- Walks over declarations, and over a body.
use Rattle.std.proofs.Common.{◌≡◌, ◌+◌, true, false, List, [], ◌∷◌, ◌++◌, map, reverse, None, refl, ap, sym, ◌∙◌, subst, append-nil}
use Rattle.std.proofs.lemmas.List.{reverse-append}
use Rattle.std.specs.List.{flat_map}
use Rattle.algol_tree.specs.declared.token.Spot.{Spot}
use Rattle.algol_tree.specs.declared.tree.Heading.{Heading}
use Rattle.algol_tree.specs.declared.tree.Kind.{Kind}
use Rattle.algol_tree.specs.declared.tree.Named.{Named}
use Rattle.algol_tree.specs.Plain as tree
use Rattle.algol_tree.specs.Plain.{PBody, PDecl, PDecls, PPair, PStmt, PStmts}
use Rattle.algol_tree.specs.Sorts.{Declared}
use Rattle.algol_tree.specs.Blocks.{Begin, of_procedure, of_statement, number_at, spot_of, Block, blocks_of, blocks_in_decl, blocks_in_decls, blocks_in_stmts, procedure_block}
use Rattle.algol_tree.specs.Surroundings.{Surroundings, inside_procedure, knowing, knowing_all}
use Rattle.algol_tree.specs.Accepted.{noted_all}
use Rattle.algol_tree.specs.Sites as site
use Rattle.algol_tree.specs.Sites.{Site, has_decls, inside_decl, sites_in_decls, sites_in_pairs, sites_in_stmts}
use Rattle.algol_frames.specs.declared.scopes.Scopes.{Scopes}
use Rattle.algol_told.specs.Telling.{TellsAll}
use Rattle.algol_sites.specs.declared.place.Place.{Place}
use Rattle.algol_sites.specs.Headings.{forward_site, missing, referring}
use Rattle.algol_sites.specs.Labelling.{labels_at, standing_as, standings_at}
use Rattle.algol_sites.specs.Noting.{noted_along, noted_at}
use Rattle.algol_sites.specs.Placing.{AreFound, BlockIsFound, SiteIsPlaced, outer_of}
use Rattle.algol_sites.proofs.Headed.{procedure_noted}
use Rattle.algol_sites.proofs.Telling.{first_told, last_told}
use Rattle.algol_check.specs.declared.checker.Checker.{Checker}
use Rattle.algol_check.specs.Walking.{PlaceIsAt, PartsNoted, Stays, WalksBody, WalksStmt, WalksStmts, stmt_sites}
use Rattle.algol_check.specs.Declaring.{PlaceEnters, EntersProcedure, WalksDecl, WalksDecls, begins}
use Rattle.algol_check.proofs.Silent.{pairs_silent}
use Rattle.algol_check.proofs.Walked.{found_alike, found_both, noted_both, noted_none, outer_alike, placed_alike, stays_at, stays_both}

known_kept : (blocks : List Block) (p : Place) (d : PDecl) (later : PDecls) (a : Surroundings) → SiteIsPlaced blocks p a → SiteIsPlaced blocks p (knowing blocks d later a)
known_kept blocks p d later a h = record { number = h.number; outer = h.outer; are_blocks = h.are_blocks }

all_kept : (blocks : List Block) (p : Place) (ds : PDecls) (a : Surroundings) → SiteIsPlaced blocks p a → SiteIsPlaced blocks p (knowing_all blocks ds a)
all_kept blocks p tree.no_decls a h = h
all_kept blocks p (tree.decls d ds) a h = all_kept blocks p ds (knowing blocks d ds a) (known_kept blocks p d ds a h)

pub outer_opened : (p q : Place) (spot : Spot) → q.block ≡ spot → q.around.items ≡ p.around.items ++ p.block ∷ [] → outer_of q ≡ spot ∷ outer_of p
outer_opened p q spot b o =
    ap (λ (s : Spot). s ∷ reverse q.around.items) b ∙ ap (λ (ss : List Spot). spot ∷ reverse ss) o
    ∙ ap (λ (ss : List Spot). spot ∷ ss) (reverse-append p.around.items (p.block ∷ []))

module _ (scopes : Scopes) where
  -- ---- declarations

  abbrev declaration : PDecl → PDecls → Surroundings → Site
  declaration d later a = record { part = site.declaration d later; around = a }

  -- after the declaration
  decl_at : (blocks : List Block) (c d : Checker) (x : PDecl) (later : PDecls) (a : Surroundings) → Stays c d → PlaceIsAt scopes blocks c.place a →
      PlaceIsAt scopes blocks d.place (knowing blocks x later a)
  decl_at blocks c d x later a s at =
      let now = stays_at scopes blocks a c d s at in record { placed = known_kept blocks d.place x later a now.placed; numbers = now.numbers }

  -- at which nothing is noted
  pub quiet_walks : (c : Checker) (d : PDecl) (later : PDecls) → ((blocks : List Block) (a : Surroundings) (first : List Declared) →
      (noted_at blocks c.faults.first (declaration d later a) ≡ c.faults.first) ×
      ((inside_decl blocks d (knowing blocks d later a) first ≡ []) × (labels_at (declaration d later a) ≡ []))) → WalksDecl scopes c c d later
  quiet_walks c d later q =
      record {
        stays = record { block = refl; outer = refl };
        notes =
            λ blocks a first at t f.
            let its = q blocks a first in
            let P : List Site → Type 0 = λ xs. PartsNoted blocks c c (declaration d later a ∷ xs) in
            subst P (sym its.1.0)
            (record {
              faults = sym its.0;
              labels = sym (append-nil c.labels.items) ∙ ap (λ ls. c.labels.items ++ (ls ++ [])) (sym its.1.1);
              standings = sym (append-nil (map standing_as c.standings.items));
            });
      }

  pub labels_walk : (c d : Checker) (ns : List Named) (later : PDecls) → d ≡ record c { labels = d.labels } →
      d.labels.items ≡ c.labels.items ++ map (λ (n : Named). n.spot) ns → WalksDecl scopes c d (tree.labels ns) later
  labels_walk c d ns later r l =
      record {
        stays = record { block = ap (λ (x : Checker). x.place.block) r; outer = ap (λ (x : Checker). x.place.around.items) r };
        notes =
            λ blocks a first at t f.
            record {
              faults = ap (λ (x : Checker). x.faults.first) r;
              labels = l ∙ ap (λ ls. c.labels.items ++ ls) (sym (append-nil (map (λ (n : Named). n.spot) ns)));
              standings = ap (λ (x : Checker). map standing_as x.standings.items) r ∙ sym (append-nil (map standing_as c.standings.items));
            };
      }

  pub arrays_walk : (c d : Checker) (kind : Kind) (ns : List Named) (ps : List PPair) (later : PDecls) → d ≡ record c { faults = d.faults } →
      ((blocks : List Block) (a : Surroundings) → TellsAll scopes (sites_in_pairs ps a) →
      d.faults.first ≡ noted_along blocks c.faults.first (sites_in_pairs ps a)) → WalksDecl scopes c d (tree.arrays kind ns ps) later
  arrays_walk c d kind ns ps later r h =
      record {
        stays = record { block = ap (λ (x : Checker). x.place.block) r; outer = ap (λ (x : Checker). x.place.around.items) r };
        notes =
            λ blocks a first at t f.
            let silent = pairs_silent (record a { known = first }) ps in
            record {
              faults = h blocks (record a { known = first }) t.1;
              labels =
                  ap (λ (x : Checker). x.labels.items) r ∙ sym (append-nil c.labels.items) ∙ ap (λ ls. c.labels.items ++ ls) (sym silent.labels);
              standings =
                  ap (λ (x : Checker). map standing_as x.standings.items) r ∙ sym (append-nil (map standing_as c.standings.items))
                  ∙ ap (λ ss. map standing_as c.standings.items ++ ss) (sym silent.standings);
            };
      }

  pub forward_walks : (c d : Checker) (h : Heading) (later : PDecls) → d ≡ record c { faults = d.faults } →
      ((blocks : List Block) (a : Surroundings) → d.faults.first ≡ noted_at blocks c.faults.first (forward_site h later a)) →
      WalksDecl scopes c d (tree.forward h) later
  forward_walks c d h later r n =
      record {
        stays = record { block = ap (λ (x : Checker). x.place.block) r; outer = ap (λ (x : Checker). x.place.around.items) r };
        notes =
            λ blocks a first at t f.
            record {
              faults = n blocks a;
              labels = ap (λ (x : Checker). x.labels.items) r ∙ sym (append-nil c.labels.items);
              standings = ap (λ (x : Checker). map standing_as x.standings.items) r ∙ sym (append-nil (map standing_as c.standings.items));
            };
      }

  pub procedure_walks : (c d e f g : Checker) (h : Heading) (s : PStmt) (later : PDecls) → d ≡ record c { faults = d.faults } →
      d.faults.first ≡ noted_all (noted_all c.faults.first (missing h.specs h.params)) (referring h.specs h.values) → e ≡ record d { place = e.place } →
      EntersProcedure d.place e.place h → WalksStmt scopes e f s of_procedure false → g ≡ record f { place = g.place } → g.place.block ≡ d.place.block →
      g.place.around.items ≡ d.place.around.items → WalksDecl scopes c g (tree.procedure h s) later
  procedure_walks c d e f g h s later r n t en w u b o =
      let block_d = ap (λ (x : Checker). x.place.block) r in
      let outer_d = ap (λ (x : Checker). x.place.around.items) r in
      record {
        stays = record { block = b ∙ block_d; outer = o ∙ outer_d };
        notes =
            λ blocks a first at told found.
            let now = knowing blocks (tree.procedure h s) later a in
            let same = outer_alike c.place d.place block_d outer_d in
            let placed = known_kept blocks d.place (tree.procedure h s) later a (placed_alike blocks a c.place d.place block_d outer_d at.placed) in
            let F : List Spot → Type 0 = λ outer. AreFound blocks (procedure_block h s outer ∷ blocks_of s of_procedure (h.name.spot ∷ outer)) in
            let found_d = subst F (sym same) found in
            let at_e : PlaceIsAt scopes blocks e.place (inside_procedure blocks h now) =
            record { placed = en.placed blocks now s placed found_d.0; numbers = at.numbers } in
            let G : List Spot → Type 0 = λ outer. AreFound blocks (blocks_of s of_procedure outer) in
            let parts = stmt_sites s of_procedure false blocks (inside_procedure blocks h now) in
            let inner = w.notes blocks (inside_procedure blocks h now) at_e told.1 (subst G (sym (outer_opened d.place e.place h.name.spot en.block en.outer)) found_d.1) in
            record {
              faults =
                  ap (λ (x : Checker). x.faults.first) u ∙ inner.faults
                  ∙ ap (λ y. noted_along blocks y parts) (ap (λ (x : Checker). x.faults.first) t ∙ procedure_noted blocks a h s later c.faults.first d.faults.first n);
              labels =
                  ap (λ (x : Checker). x.labels.items) u ∙ inner.labels
                  ∙ ap (λ ls. ls ++ flat_map labels_at parts) (ap (λ (x : Checker). x.labels.items) t ∙ ap (λ (x : Checker). x.labels.items) r);
              standings =
                  ap (λ (x : Checker). map standing_as x.standings.items) u ∙ inner.standings
                  ∙ ap (λ ss. ss ++ flat_map standings_at parts)
                  (ap (λ (x : Checker). map standing_as x.standings.items) t ∙ ap (λ (x : Checker). map standing_as x.standings.items) r);
            };
      }

  pub decls_end : (c : Checker) → WalksDecls scopes c c tree.no_decls
  decls_end c = record { stays = record { block = refl; outer = refl }; notes = λ blocks a first at t f. noted_none blocks c }

  pub decls_more : (c d e : Checker) (x : PDecl) (later : PDecls) → WalksDecl scopes c d x later → WalksDecls scopes d e later →
      WalksDecls scopes c e (tree.decls x later)
  decls_more c d e x later h w =
      record {
        stays = stays_both c d e h.stays w.stays;
        notes =
            λ blocks a first at t f.
            let next = knowing blocks x later a in
            let same = outer_alike c.place d.place h.stays.block h.stays.outer in
            let here : List Site = declaration x later a ∷ inside_decl blocks x next first in
            let rest : List Site = sites_in_decls blocks later next first in
            let fs = found_both blocks (blocks_in_decl x (outer_of c.place)) (blocks_in_decls later (outer_of c.place)) f in
            noted_both blocks c d e here rest (h.notes blocks a first at (first_told scopes here rest t) fs.0)
            (w.notes blocks next first (decl_at blocks c d x later a h.stays at) (last_told scopes here rest t)
            (found_alike blocks (blocks_in_decls later (outer_of c.place)) (blocks_in_decls later (outer_of d.place)) (ap (blocks_in_decls later) (sym same)) fs.1));
      }

  pub body_walks : (c d e : Checker) (spot : Spot) (ds : PDecls) (ss : PStmts) → WalksDecls scopes c d ds → WalksStmts scopes d e ss (has_decls ds) →
      WalksBody scopes c e (tree.body spot ds ss)
  body_walks c d e spot ds ss w v =
      record {
        stays = stays_both c d e w.stays v.stays;
        notes =
            λ blocks a at t found.
            let all = knowing_all blocks ds a in
            let xs : List Site = sites_in_decls blocks ds a a.known in
            let ys : List Site = sites_in_stmts blocks ss (has_decls ds) all in
            let at_d = stays_at scopes blocks a c d w.stays at in
            let at_all : PlaceIsAt scopes blocks d.place all = record { placed = all_kept blocks d.place ds a at_d.placed; numbers = at_d.numbers } in
            let fs = found_both blocks (blocks_in_decls ds (outer_of c.place)) (blocks_in_stmts ss (outer_of c.place)) found in
            let same = outer_alike c.place d.place w.stays.block w.stays.outer in
            noted_both blocks c d e xs ys (w.notes blocks a a.known at (first_told scopes xs ys t) fs.0)
            (v.notes blocks all at_all (last_told scopes xs ys t)
            (found_alike blocks (blocks_in_stmts ss (outer_of c.place)) (blocks_in_stmts ss (outer_of d.place)) (ap (blocks_in_stmts ss) (sym same)) fs.1));
      }

-- ---- blocks of statements

pub enters_block : (p q : Place) (b : PBody) (begin : Begin) (spot : Spot) → true ≡ begins begin b → spot ≡ spot_of b → q.block ≡ spot → q.around.items ≡ p.around.items ++ p.block ∷ [] →
    ((blocks : List Block) (x : Block) (a k : Surroundings) → SiteIsPlaced blocks p a → BlockIsFound blocks x → x.spot ≡ spot → x.outer ≡ outer_of p → k.block ≡ number_at blocks spot →
    SiteIsPlaced blocks q k) → PlaceEnters p q b begin
enters_block p q b of_procedure spot t e qb qo h = absurd (let clash : true ≡ false = t in cc)
enters_block p q (tree.body at tree.no_decls ss) of_statement spot t e qb qo h = absurd (let clash : true ≡ false = t in cc)
enters_block p q (tree.body at (tree.decls d ds) ss) of_statement spot t e qb qo h =
    record {
      outer = outer_opened p q at (qb ∙ e) qo;
      placed =
          λ blocks a placed found.
          h blocks (record { spot = at; outer = outer_of p; name = []; parameters = []; result = None; decls = tree.decls d ds; stmts = ss }) a
          (record { block = number_at blocks at; depth = a.depth + 1; known = a.known }) placed found.0 (sym e) refl (ap (number_at blocks) (sym e));
    }

pub enters_none : (p : Place) (b : PBody) (begin : Begin) → false ≡ begins begin b → PlaceEnters p p b begin
enters_none p b of_procedure t = record { outer = refl; placed = λ blocks a placed found. placed }
enters_none p (tree.body at tree.no_decls ss) of_statement t = record { outer = refl; placed = λ blocks a placed found. placed }
enters_none p (tree.body at (tree.decls d ds) ss) of_statement t = absurd (let clash : false ≡ true = t in cc)

-- ---- procedures

pub enters_procedure : (p q : Place) (h : Heading) → q.block ≡ h.name.spot → q.around.items ≡ p.around.items ++ p.block ∷ [] →
    ((blocks : List Block) (x : Block) (a k : Surroundings) → SiteIsPlaced blocks p a → BlockIsFound blocks x → x.spot ≡ h.name.spot → x.outer ≡ outer_of p →
    k.block ≡ number_at blocks h.name.spot → SiteIsPlaced blocks q k) → EntersProcedure p q h
enters_procedure p q h b o placed =
    record {
      block = b;
      outer = o;
      placed = λ blocks a s at found. placed blocks (procedure_block h s (outer_of p)) a (inside_procedure blocks h a) at found refl refl refl;
    }
