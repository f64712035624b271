-- What is due has a text.
use Rattle.std.proofs.Common.{◌≡◌, ◌≤◌, ◌+◌, ℕ, pos, true, false, None, List, [], ◌∷◌, ◌++◌, length, length-append, refl, sym, subst, ap, ◌∙◌, inl, inr, append_assoc, arith}
use Rattle.algol_tree.specs.declared.TheConstants.{MOST_EXPRESSION_TOKENS}
use Rattle.algol_tree.specs.declared.token.Token.{Token}
use Rattle.algol_tree.specs.declared.token.TokenKind.{TokenKind}
use Rattle.algol_tree.specs.declared.token.TokenKind.TheVariants as kinds
use Rattle.algol_tree.specs.declared.token.Reserved.TheVariants as reserved
use Rattle.algol_tree.specs.declared.token.Symbol.TheVariants as symbols
use Rattle.algol_tree.specs.declared.level.Level.{Level}
use Rattle.algol_tree.specs.declared.level.Level.TheVariants as levels
use Rattle.algol_tree.specs.declared.tree.Named.{Named}
use Rattle.algol_tree.specs.declared.tree.PhraseText.TheVariants as formats
use Rattle.algol_tree.specs.declared.tree.Spec.TheVariants as specs
use Rattle.algol_tree.specs.Plain as trees
use Rattle.algol_tree.specs.Plain.{PExpr, none, empty, no_stmts, stmts, no_decls, decls}
use Rattle.algol_tree.specs.Operators.{Part, expr, level, not_part, rel, primary, operand}
use Rattle.algol_tree.specs.Expressions as expressions
use Rattle.algol_tree.specs.Expressions.{IsExprPart}
use Rattle.algol_tree.specs.Headings as headings
use Rattle.algol_tree.specs.Statements as grammar
use Rattle.algol_tree.specs.Programs as programs
use Rattle.algol_tree.specs.Due.{Value, one, names, stmt, declared, Due, make, word, symbol, spelled, part, more_of, relation, behind_name, exprs_more, opening, event, events_more, behind_event, whole, whole_ends, named, names_more, printer_part, files_more, literal, number_negated, lows_more, values_part, spec, spec_typed, specs_more, behind_procedure, wholes_more, actuals_part, items_part, pairs_more, segments_more, task_part, to_part, angle, phrase, phrases_more, statement, behind_start, else_part, stmts_more, declarations, typed, procedure_body, program}
use Rattle.algol_tree.specs.DueDecl.{spec_simple, spec_events, headed}
use Rattle.algol_tree.specs.DueStmt.{phrase_added, two_armed, names_declared, announced}
use Rattle.algol_tree.specs.Reading.{nowhere}
use Rattle.algol_expr.proofs.Sound.{single, opened, event_is, it, makes_it, left_out, leave_more, leave_relation, leave_name, leave_exprs, leave_events, leave_behind_event}
use Rattle.algol_grammar.proofs.Lists.{behind_decls}
use Rattle.algol_grammar.proofs.Meant.{gives, one_name, less, one_phrase, IsArms, with_else, ended, IsDue, IsAll, nil, cons}
use Rattle.algol_grammar.proofs.Given.{put_given}
use Rattle.algol_grammar.proofs.SoundHeadings.{no_names_more, no_printer, no_files_more, no_lows_more, no_values, no_specs_more}
use Rattle.algol_grammar.proofs.SoundLists.{no_wholes_more, no_actuals, no_items, no_pairs_more, no_segments_more, no_task, no_to, no_phrases_more}
use Rattle.algol_grammar.proofs.SoundStatements.{shut, no_stmts_more, only_name}
use Rattle.algol_grammar.proofs.SoundDeclarations.{no_declarations}
use Rattle.algol_grammar.proofs.SoundDue.{all_outer, all_inner}
use Rattle.algol_grammar.proofs.Keeps.{inners_outer}
use Rattle.algol_grammar.proofs.Places.{Place, out, within, Placed, Fits, IsFrom, outer_first}

abbrev one_token : TokenKind → Token
one_token k = record { kind = k; spot = nowhere; from = 0; to = 0 }

abbrev a_number : Token
a_number = one_token (kinds.Number (pos 1))

abbrev a_name : Token
a_name = one_token (kinds.Name [])

abbrev nobody : Named
nobody = record { name = []; spot = nowhere }

abbrev one_tree : PExpr
one_tree = trees.number (pos 1) nowhere

-- the text 1 is a part of each kind
abbrev Ones : ℕ → ℕ → Part → Type 0
Ones free d p = (rest : List Token) → IsExprPart free p d (a_number ∷ rest) one_tree rest

module _ (free d : ℕ) where
  one_chain : (l : Level) → Ones free d (operand l) → Ones free d (level l)
  one_chain l x rest = expressions.chain l d one_tree one_tree _ rest rest (x rest) (expressions.last l d one_tree rest)

  one_primary : Ones free d primary
  one_primary rest = expressions.literal a_number d (pos 1) rest refl

  one_sum : Ones free d (level levels.Sum)
  one_sum = one_chain levels.Sum (one_chain levels.Term one_primary)

  one_rel : Ones free d rel
  one_rel rest = expressions.alone d one_tree _ rest (one_sum rest)

  one_not : Ones free d not_part
  one_not rest = expressions.affirmation d one_tree _ rest (one_rel rest)

  one_or : Ones free d (level levels.Or)
  one_or = one_chain levels.Or (one_chain levels.And one_not)

  one_eqv : Ones free d (level levels.Eqv)
  one_eqv = one_chain levels.Eqv (one_chain levels.Imp one_or)

  one_part : (p : Part) → Ones free d p
  one_part expr = λ rest. expressions.unconditional d one_tree _ rest (one_eqv rest)
  one_part (level levels.Eqv) = one_eqv
  one_part (level levels.Imp) = one_chain levels.Imp one_or
  one_part (level levels.Or) = one_or
  one_part (level levels.And) = one_chain levels.And one_not
  one_part (level levels.Sum) = one_sum
  one_part (level levels.Term) = one_chain levels.Term one_primary
  one_part not_part = one_not
  one_part rel = one_rel
  one_part primary = one_primary

-- a text of what is due
abbrev text_of : Due → List Token
text_of (word w) = one_token (kinds.Word w) ∷ []
text_of (symbol s) = one_token (kinds.Symbol s) ∷ []
text_of (spelled n) = one_token (kinds.Name n) ∷ []
text_of (part p d) = a_number ∷ []
text_of (opening s d) = one_token (kinds.Symbol s) ∷ []
text_of event = a_name ∷ []
text_of (whole d) = a_number ∷ []
text_of named = a_name ∷ []
text_of literal = a_number ∷ []
text_of number_negated = a_number ∷ []
text_of spec = one_token (kinds.Word reserved.Event) ∷ a_name ∷ one_token (kinds.Symbol symbols.Semicolon) ∷ []
text_of (spec_typed kind) = a_name ∷ one_token (kinds.Symbol symbols.Semicolon) ∷ []
text_of (behind_procedure kind) = one_token (kinds.Symbol symbols.Semicolon) ∷ []
text_of angle = one_token (kinds.Symbol symbols.Less) ∷ []
text_of phrase = a_name ∷ []
text_of (else_part d) = one_token (kinds.Word reserved.Else) ∷ []
text_of (typed kind d) = a_name ∷ one_token (kinds.Symbol symbols.Semicolon) ∷ []
text_of (procedure_body d) = one_token (kinds.Word reserved.Forward) ∷ one_token (kinds.Symbol symbols.Semicolon) ∷ []
text_of program = one_token (kinds.Word reserved.Begin) ∷ one_token (kinds.Word reserved.End) ∷ one_token (kinds.Symbol symbols.Period) ∷ []
text_of s = []

abbrev pub text : List Due → List Token
text [] = []
text (s ∷ due) = text_of s ++ text due

-- an ELSE is never left out, so that nothing need be known of what stands after
sample : (free : ℕ) (s : Due) (vs : List Value) (rest : List Token) → all_outer (s ∷ []) ≡ true → length (text_of s ++ rest) ≤ free →
    (ws : List Value) × IsDue free s vs (text_of s ++ rest) ws rest
sample free (make m) vs rest o le = (m vs, makes_it)
sample free (word w) vs rest o le = (vs, single (one_token (kinds.Word w)) rest refl)
sample free (symbol s) vs rest o le = (vs, single (one_token (kinds.Symbol s)) rest refl)
sample free (spelled n) vs rest o le = (vs, single (one_token (kinds.Name n)) rest refl)
sample free (part p d) vs rest o le = (one one_tree ∷ vs, it one_tree rest (one_part free d p rest))
sample free (more_of l d) vs rest o le = (vs, leave_more free l d None vs vs rest rest left_out)
sample free (relation d) vs rest o le = (vs, leave_relation free d None vs vs rest rest left_out)
sample free (behind_name n d) vs rest o le = (_, leave_name free n d false false vs _ rest rest makes_it)
sample free (exprs_more d) vs rest o le = (vs, leave_exprs free d false vs vs rest rest left_out)
sample free (opening s d) vs rest o le = (vs, opened (one_token (kinds.Symbol s)) rest refl (inr le))
sample free event vs rest o le = (_, event_is _ rest (expressions.declared a_name nobody rest (record { name = refl; place = refl })))
sample free events_more vs rest o le = (_, leave_events free false vs vs rest rest left_out)
sample free (behind_event n) vs rest o le = (_, leave_behind_event free n false vs _ rest rest makes_it)
sample free (whole d) vs rest o le = (one one_tree ∷ vs, gives one_tree rest (record { reads = one_part free d expr rest; short = inl (omega arith) }))
sample free whole_ends vs rest o le = cc
sample free named vs rest o le = (_, gives nobody rest (one_name a_name nobody rest (record { name = refl; place = refl })))
sample free names_more vs rest o le = (vs, no_names_more free vs rest)
sample free printer_part vs rest o le = (vs, no_printer free vs rest)
sample free files_more vs rest o le = (vs, no_files_more free vs rest)
sample free literal vs rest o le = (_, gives (pos 1) rest (headings.positive a_number (pos 1) rest refl))
sample free number_negated vs rest o le = (_, gives _ rest (λ t m. headings.negative t a_number (pos 1) rest m refl))
sample free lows_more vs rest o le = (vs, no_lows_more free vs rest)
sample free values_part vs rest o le = (_, no_values free vs rest)
sample free spec vs rest o le = (
  spec_events (names (nobody ∷ []) ∷ vs),
  λ acc below is.
      put_given (specs.Events (nobody ∷ [])) (ap (λ us. spec_events (names (nobody ∷ []) ∷ us)) is)
      (headings.events _ _ (nobody ∷ []) _ rest refl (headings.last a_name nobody _ (record { name = refl; place = refl })) refl),
)
sample free (spec_typed kind) vs rest o le = (
  spec_simple kind (names (nobody ∷ []) ∷ vs),
  λ acc below is.
      put_given (specs.Simple kind (nobody ∷ [])) (ap (λ us. spec_simple kind (names (nobody ∷ []) ∷ us)) is)
      (λ t k. headings.simple t _ kind (nobody ∷ []) _ rest k (headings.last a_name nobody _ (record { name = refl; place = refl })) refl),
)
sample free specs_more vs rest o le = (vs, no_specs_more free vs rest)
sample free (behind_procedure kind) vs rest o le = (
  headed kind vs,
  λ n below is.
      put_given (record { kind = kind; name = n; params = []; values = []; specs = [] }) (ap (headed kind) is) (λ before t u x w k. headings.without t u _ kind n before rest x w k refl),
)
sample free wholes_more vs rest o le = (vs, no_wholes_more free vs rest)
sample free actuals_part vs rest o le = (_, no_actuals free vs rest)
sample free items_part vs rest o le = (_, no_items free vs rest)
sample free pairs_more vs rest o le = (vs, no_pairs_more free vs rest)
sample free (segments_more kind) vs rest o le = (vs, no_segments_more free kind vs rest)
sample free task_part vs rest o le = (_, no_task free vs rest)
sample free to_part vs rest o le = (vs, no_to free vs rest)
sample free angle vs rest o le = (_, gives nowhere rest (less (one_token (kinds.Symbol symbols.Less)) rest refl))
sample free phrase vs rest o le = (
  phrase_added (formats.Word []) vs,
  λ acc below is.
      put_given (formats.Word []) (ap (phrase_added (formats.Word [])) is) (one_phrase a_name (formats.Word []) rest refl),
)
sample free phrases_more vs rest o le = (vs, no_phrases_more free vs rest)
sample free (statement d) vs rest o le = (_, gives empty rest (shut (grammar.nothing d rest) refl))
sample free (behind_start n d) vs rest o le = (_, only_name free n d vs rest)
sample free (else_part d) vs rest o le = (
  two_armed (stmt empty ∷ vs),
  λ s c below is.
      subst (λ us. IsArms free d c s below (one_token (kinds.Word reserved.Else) ∷ rest) (two_armed (stmt empty ∷ us)) rest) (sym is)
      (with_else (one_token (kinds.Word reserved.Else)) empty rest rest refl (shut (grammar.nothing d rest) refl)),
)
sample free (stmts_more d) vs rest o le = (vs, no_stmts_more free d vs rest)
sample free (declarations d) vs rest o le = (vs, no_declarations free d vs rest)
sample free (typed kind d) vs rest o le = (
  names_declared (trees.simple kind) (names (nobody ∷ []) ∷ vs),
  λ acc below is.
      put_given (decls (trees.simple kind (nobody ∷ [])) no_decls) (ap (λ us. names_declared (trees.simple kind) (names (nobody ∷ []) ∷ us)) is
      ∙ ap (λ ds. declared ds ∷ below) (behind_decls acc (trees.simple kind (nobody ∷ []))))
      (λ t e. ended _ _ _ rest (grammar.values t kind (nobody ∷ []) d _ _ e (headings.last a_name nobody _ (record { name = refl; place = refl }))) refl),
)
sample free (procedure_body d) vs rest o le = (
  announced vs,
  λ h acc below is.
      put_given (decls (trees.forward h) no_decls) (ap announced is ∙ ap (λ ds. declared ds ∷ below) (behind_decls acc (trees.forward h)))
      (λ before x. ended _ _ before rest (grammar.announced _ h d before _ x refl) refl),
)
sample free program vs rest o le = (
  _,
  gives (trees.program (trees.body nowhere no_decls (stmts empty no_stmts))) rest
      (programs.whole _ _ _ _ _ rest refl (grammar.declared 1 nowhere no_decls (stmts empty no_stmts) _ _ _ (grammar.no_more 1 _) (grammar.last 1 empty _ _ (grammar.nothing 1 _))) refl refl),
)

outer_one : (s : Due) (due : List Due) → all_outer (s ∷ due) ≡ true → (all_outer (s ∷ []) ≡ true) × (all_outer due ≡ true)
outer_one s due e = let r = outer_first s due e in (rw r.0 refl, r.1)

complete_due : (free : ℕ) (due : List Due) (vs : List Value) (rest : List Token) → all_outer due ≡ true → length (text due ++ rest) ≤ free →
    (ws : List Value) × IsAll free due vs (text due ++ rest) ws rest
complete_due free [] vs rest o le = (vs, nil vs rest)
complete_due free (s ∷ due) vs rest o le =
    let q = outer_one s due o in
    let same : (text_of s ++ text due) ++ rest ≡ text_of s ++ (text due ++ rest) = append_assoc (text_of s) (text due) rest in
    let all : length (text_of s ++ (text due ++ rest)) ≤ free = subst (λ ts. length ts ≤ free) same le in
    let shorter : length (text due ++ rest) ≤ free = grind (arith, length-append, all) in
    let x = sample free s vs (text due ++ rest) q.0 all in
    let r = complete_due free due x.0 rest q.1 shorter in
    (r.0, subst (λ ts. IsAll free (s ∷ due) vs ts r.0 rest) (sym same) (cons s due vs x.0 r.0 (text_of s ++ (text due ++ rest)) (text due ++ rest) rest x.1 r.1))

-- whatever is due at a place
abbrev pub text_at : Place → List Token
text_at (out due) = text due ++ []
text_at (within c a b) = text a ++ (text b ++ [])

pub complete : (free : ℕ) (p : Place) (vs : List Value) → Placed p → Fits free p (text_at p) → length (text_at p) ≤ free → (ws : List Value) × IsFrom free p vs (text_at p) ws []
complete free (out due) vs i k le = complete_due free due vs [] i le
complete free (within c a b) vs i k le =
    let x = complete_due free a vs (text b ++ []) (inners_outer a i.0) le in
    let shorter : length (text b ++ []) ≤ free = grind (arith, length-append, le) in
    let y = complete_due free b x.0 [] i.1 shorter in
    (y.0, record { us = x.0; mid = text b ++ []; first = all_inner free a vs (text a ++ (text b ++ [])) x.0 (text b ++ []) i.0 x.1; room = inr (room k); second = y.1 })
  where
    room : Fits free (within c a b) (text_at (within c a b)) → c + length (text_at (within c a b)) ≤ free + MOST_EXPRESSION_TOKENS
    room (inl small) = omega (arith, small, le)
    room (inr small) = small
