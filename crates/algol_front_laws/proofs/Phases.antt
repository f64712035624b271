-- Which part of the front end a refusal comes from.
use Rattle.std.proofs.Common.{◌≡◌, ℕ, Bool, true, false, List, [], ◌∷◌, ◌++◌, Option, Some, None, refl, sym, subst, ap, ◌∙◌}
use Rattle.std.specs.Prelude.{if◌then◌else◌, nat_le, length, unsigned_abs}
use Rattle.std.specs.List.{AllByRecursion, flat_map}
use Rattle.b67_num.specs.Whole.{most}
use Rattle.algol_tree.specs.declared.TheConstants.{MOST_NAME_BYTES}
use Rattle.algol_tree.specs.declared.token.Spot.{Spot}
use Rattle.algol_tree.specs.declared.token.Token.{Token}
use Rattle.algol_tree.specs.declared.token.TokenKind.{TokenKind}
use Rattle.algol_tree.specs.declared.token.TokenKind.TheVariants as kinds
use Rattle.algol_tree.specs.declared.token.Reserved.{Reserved}
use Rattle.algol_tree.specs.declared.token.Reserved.TheVariants as reserved
use Rattle.algol_tree.specs.declared.refusal.Code.{Code}
use Rattle.algol_tree.specs.declared.refusal.Code.TheVariants as codes
use Rattle.algol_tree.specs.declared.refusal.Fault.{Fault}
use Rattle.algol_tree.specs.declared.refusal.Refusal.{Refusal}
use Rattle.algol_tree.specs.declared.refusal.Refusal.TheVariants.{At, NoMemory}
use Rattle.algol_tree.specs.Plain.{PProgram}
use Rattle.algol_tree.specs.Records.{Record}
use Rattle.algol_tree.specs.Lexes as lexes
use Rattle.algol_tree.specs.Lexes.{Front, Piece, Wrong, Mode, TokenStands, Fails, TextIsRefused, Lexes, front_of, remark_front, word_front, remark_word, string_or}
use Rattle.algol_tree.specs.Programs.{Reads}
use Rattle.algol_tree.specs.Refused.{RefusedProgram}
use Rattle.algol_tree.specs.Blocks.{blocks_of_program}
use Rattle.algol_tree.specs.Names.{cells_beyond, deep_actuals, deep_blocks, declared_twice, long_segments, procedures_beyond, unknown_names}
use Rattle.algol_tree.specs.Checks.{not_assignable, wrong_types}
use Rattle.algol_tree.specs.Counted.{bad_lists, wide_lines, wrong_counts}
use Rattle.algol_tree.specs.Labels.{bad_labels}
use Rattle.algol_tree.specs.Accepted.{broken, scope_faults, check_faults, sites_of, is_earlier, earlier, noted_all, first_fault, refusal_after, tree_refusal}
use Rattle.algol_tree.specs.First.{First, in_text, in_grammar, in_tree}
use Rattle.algol_rules.proofs.Order.{first_none}
use Rattle.algol_lexer.proofs.LexReach.{not_both}
use Rattle.algol_grammar.proofs.Refusals.{program_not_refused}
use Rattle.algol_front.specs.Refusing.{RefusesFirst}
use Rattle.algol_front_laws.specs.Phases.{Phase, text, grammar, names, checks, phase_of, InNames, InChecks, RefusedIn, TellsPart}
use Rattle.algol_told.proofs.Lists.{all_append}

-- ---- the text

abbrev IsOf : Phase → Code → Type 0
IsOf p code = phase_of code ≡ p

-- what is wrong at the front of columns is of the text
abbrev FitsText : Front → Type 0
FitsText (Piece size kind mode) = Unit {0}
FitsText (Wrong skipped code) = IsOf text code

word_fits : (w : Reserved) (size : ℕ) → FitsText (word_front w size)
word_fits reserved.Comment size = tt
word_fits reserved.End size = tt
word_fits _ size = tt

name_fits : (b : Bool) (name : List ℕ) (size : ℕ) → FitsText (if b then lexes.token_of (kinds.Name name) size else Wrong 0 codes.NameTooLong)
name_fits true name size = tt
name_fits false name size = refl

front_fits : (k : TokenKind) (size : ℕ) → FitsText (front_of k size)
front_fits (kinds.Word w) size = word_fits w size
front_fits (kinds.Name name) size = name_fits (nat_le (length name) MOST_NAME_BYTES) name size
front_fits (kinds.Number value) size = chosen (nat_le (unsigned_abs value) most)
  where
    chosen : (b : Bool) → FitsText (if b then lexes.token_of (kinds.Number value) size else Wrong 0 codes.NumberTooWide)
    chosen true = tt
    chosen false = refl
front_fits (kinds.Text t) size = tt
front_fits (kinds.Symbol s) size = tt
front_fits kinds.End size = tt

remark_word_fits : (w : Reserved) (size : ℕ) → FitsText (remark_word w size)
remark_word_fits reserved.End size = tt
remark_word_fits reserved.Else size = tt
remark_word_fits reserved.Until size = tt
remark_word_fits _ size = tt

remark_fits : (k : TokenKind) (size : ℕ) → FitsText (remark_front k size)
remark_fits (kinds.Word w) size = remark_word_fits w size
remark_fits _ size = tt

string_fits : (inside : List ℕ) (bad : Option ℕ) → FitsText (string_or inside bad)
string_fits inside None = tt
string_fits inside (Some k) = refl

stands_fits : {m : Mode} {bytes : List ℕ} {f : Front} → TokenStands m bytes f → FitsText f
stands_fits (lexes.blank b after h) = tt
stands_fits (lexes.percent after) = tt
stands_fits (lexes.spelled bytes after k s l) = front_fits k (length bytes)
stands_fits (lexes.closed inside after h) = string_fits inside _
stands_fits (lexes.unclosed after h) = refl
stands_fits (lexes.none b after h) = refl
stands_fits (lexes.closing after) = tt
stands_fits (lexes.commented b after h) = tt
stands_fits (lexes.remarked bytes after k s l n) = remark_fits k (length bytes)
stands_fits (lexes.semicolon after) = tt
stands_fits (lexes.period after) = tt
stands_fits (lexes.passed b after h i j) = tt

fails_text : {r : Record} {m : Mode} {spot : Spot} {code : Code} → Fails r m spot code → IsOf text code
fails_text (lexes.wrong n at skipped tokens code g s) = stands_fits s
fails_text (lexes.long n tokens g h) = refl

-- ---- the grammar

grammar_code : (tokens : List Token) (spot : Spot) (code : Code) → RefusedProgram tokens (At spot code) → IsOf grammar code
grammar_code tokens spot codes.Unexpected r = refl
grammar_code tokens spot codes.TooDeep r = refl
grammar_code tokens spot codes.TextAfterEnd r = refl
grammar_code tokens spot _ r = absurd r

-- ---- a tree

abbrev AreOf : Phase → List Fault → Type 0
AreOf p fs = AllByRecursion (λ (f : Fault). IsOf p f.code) fs

broken_of : (p : Phase) (code : Code) → IsOf p code → (spots : List Spot) → AreOf p (broken code spots)
broken_of p code e [] = tt
broken_of p code e (s ∷ spots) = (e, broken_of p code e spots)

both_of : (p : Phase) (fs gs : List Fault) → AreOf p fs → AreOf p gs → AreOf p (fs ++ gs)
both_of p fs gs h k = all_append (λ (f : Fault). IsOf p f.code) fs gs h k

-- the faults by six rules of one part
six_of : (p : Phase) (a b c d e f : Code) → IsOf p a → IsOf p b → IsOf p c → IsOf p d → IsOf p e → IsOf p f → (us vs ws xs ys zs : List Spot) →
    AreOf p (broken a us ++ broken b vs ++ broken c ws ++ broken d xs ++ broken e ys ++ broken f zs)
six_of p a b c d e f h i j k l m us vs ws xs ys zs =
    both_of p (broken a us ++ broken b vs ++ broken c ws ++ broken d xs ++ broken e ys) (broken f zs)
    (both_of p (broken a us ++ broken b vs ++ broken c ws ++ broken d xs) (broken e ys)
    (both_of p (broken a us ++ broken b vs ++ broken c ws) (broken d xs)
    (both_of p (broken a us ++ broken b vs) (broken c ws) (both_of p (broken a us) (broken b vs) (broken_of p a h us) (broken_of p b i vs)) (broken_of p c j ws))
    (broken_of p d k xs)) (broken_of p e l ys)) (broken_of p f m zs)

names_of : (p : PProgram) → AreOf names (scope_faults p)
unfolding scope_faults
names_of p =
    let blocks = blocks_of_program p in
    let ss = sites_of p in
    six_of names codes.UnknownName codes.DeclaredTwice codes.TooManyLevels codes.TooManyCells codes.TooManyProcedures codes.SegmentTooLong refl refl refl refl
    refl refl (flat_map unknown_names ss) (flat_map (declared_twice blocks) ss) (deep_blocks blocks ++ flat_map deep_actuals ss) (cells_beyond blocks ss)
    (procedures_beyond blocks) (long_segments p ss)

checks_of : (p : PProgram) → AreOf checks (check_faults p)
unfolding check_faults
checks_of p =
    let blocks = blocks_of_program p in
    let ss = sites_of p in
    six_of checks codes.WrongType codes.WrongCount codes.NotAssignable codes.WriteList codes.LineTooWide codes.BadLabel refl refl refl refl refl refl
    (flat_map (wrong_types blocks) ss) (flat_map wrong_counts ss) (flat_map (not_assignable blocks) ss) (flat_map bad_lists ss) (flat_map wide_lines ss)
    (bad_labels ss)

earlier_of : (p : Phase) (f g : Fault) → IsOf p f.code → IsOf p g.code → IsOf p (earlier f g).code
earlier_of p f g h k = chosen (is_earlier g f)
  where
    chosen : (b : Bool) → IsOf p (if b then g else f).code
    chosen true = k
    chosen false = h

noted_of : (p : Phase) (g : Fault) (fs : List Fault) (f : Fault) → IsOf p g.code → AreOf p fs → noted_all (Some g) fs ≡ Some f → IsOf p f.code
noted_of p g [] f h k e = let same : g ≡ f = cc in subst (λ (x : Fault). IsOf p x.code) same h
noted_of p g (x ∷ fs) f h k e = noted_of p (earlier g x) fs f (earlier_of p g x h k.0) k.1 e

first_of : (p : Phase) (fs : List Fault) (f : Fault) → AreOf p fs → first_fault fs ≡ Some f → IsOf p f.code
first_of p [] f h e = absurd (let clash : None ≡ Some f = e in cc)
first_of p (x ∷ fs) f h e = noted_of p x fs f h.0 h.1 e

-- ---- the whole

abbrev told : (bytes : List ℕ) (spot : Spot) (code : Code) (p : Phase) → IsOf p code → RefusedIn p bytes spot code → RefusedIn (phase_of code) bytes spot code
told bytes spot code p e r = subst (λ (q : Phase). RefusedIn q bytes spot code) (sym e) r

tree_told : (bytes : List ℕ) (fault : Fault) (tokens : List Token) (tree : PProgram) → Lexes bytes tokens → Reads tokens tree →
    (scoped checked : Option Fault) → first_fault (scope_faults tree) ≡ scoped → first_fault (check_faults tree) ≡ checked →
    refusal_after scoped checked ≡ Some fault → RefusedIn (phase_of fault.code) bytes fault.spot fault.code
tree_told bytes fault tokens tree l r (Some f) checked s c e =
    let first : first_fault (scope_faults tree) ≡ Some fault = s ∙ e in
    told bytes fault.spot fault.code names (first_of names (scope_faults tree) fault (names_of tree) first)
    (record { tokens = tokens; tree = tree; lexes = l; reads = r; refused = first })
tree_told bytes fault tokens tree l r None checked s c e =
    let first : first_fault (check_faults tree) ≡ Some fault = c ∙ e in
    told bytes fault.spot fault.code checks (first_of checks (check_faults tree) fault (checks_of tree) first)
    (record { tokens = tokens; tree = tree; lexes = l; reads = r; scoped = first_none (scope_faults tree) s; refused = first })

first_told : (bytes : List ℕ) (spot : Spot) (code : Code) → First bytes spot code → RefusedIn (phase_of code) bytes spot code
unfolding tree_refusal
first_told bytes _ _ (in_text spot code r) =
    told bytes spot code text (fails_text r.fails) (record { refused = r; none = λ tokens l. not_both l r })
first_told bytes _ _ (in_grammar spot code tokens l r) =
    told bytes spot code grammar (grammar_code tokens spot code r)
    (record { tokens = tokens; lexes = l; refused = r; none = λ tree reads. program_not_refused tokens tree spot code reads r })
first_told bytes _ _ (in_tree fault tokens tree l r e) =
    tree_told bytes fault tokens tree l r (first_fault (scope_faults tree)) (first_fault (check_faults tree)) refl refl e

names_first : (bytes : List ℕ) (spot : Spot) (code : Code) → InNames bytes spot code → First bytes spot code
unfolding tree_refusal
names_first bytes spot code r =
    in_tree (record { spot = spot; code = code }) r.tokens r.tree r.lexes r.reads
    (ap (λ (f : Option Fault). refusal_after f (first_fault (check_faults r.tree))) r.refused)

checks_first : (bytes : List ℕ) (spot : Spot) (code : Code) → InChecks bytes spot code → First bytes spot code
unfolding tree_refusal
checks_first bytes spot code r =
    in_tree (record { spot = spot; code = code }) r.tokens r.tree r.lexes r.reads
    (ap (λ (fs : List Fault). refusal_after (first_fault fs) (first_fault (check_faults r.tree))) r.scoped ∙ r.refused)

part_first : (p : Phase) (bytes : List ℕ) (spot : Spot) (code : Code) → RefusedIn p bytes spot code → First bytes spot code
part_first text bytes spot code r = in_text spot code r.refused
part_first grammar bytes spot code r = in_grammar spot code r.tokens r.lexes r.refused
part_first names bytes spot code r = names_first bytes spot code r
part_first checks bytes spot code r = checks_first bytes spot code r

pub parts_told : (bytes : List ℕ) (spot : Spot) (code : Code) →
    (First bytes spot code → RefusedIn (phase_of code) bytes spot code) × (RefusedIn (phase_of code) bytes spot code → First bytes spot code)
parts_told bytes spot code = (first_told bytes spot code, part_first (phase_of code) bytes spot code)

pub answers_told : (bytes : List ℕ) (refusal : Refusal) → RefusesFirst bytes refusal → TellsPart bytes refusal
answers_told bytes (At spot code) r = first_told bytes spot code r
answers_told bytes NoMemory r = tt
