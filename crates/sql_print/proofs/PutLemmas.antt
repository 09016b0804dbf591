-- Lexemes put one after another.
use Rattle.std.proofs.Common.{◌≡◌, Bool, true, false, List, [], ◌∷◌, ◌++◌, refl, sym, ap, ◌∙◌, append_assoc, append-nil, map, Result, Ok, Err, OnOk}
use Rattle.std.specs.declared.alloc.AllocError.{AllocError}
use Rattle.std.specs.Prelude.{if◌then◌else◌}
use Rattle.sql_tree.specs.declared.lexeme.Lexeme.{Lexeme}
use Rattle.sql_tree.specs.declared.lexeme.LexemeKind.TheVariants as k
use Rattle.sql_tree.specs.Lexemes.{kind, same_kind}
use Rattle.sql_tree.specs.Print.{Print, token, in_parens, operand, separated, all_of, statement_print, print}
use Rattle.sql_tree.specs.declared.statement.Statement.{Statement}
use Rattle.sql_tree.specs.Spelling.{gap, spelling, spelled_behind, spelled}
use Rattle.sql_print.specs.Writing.{Written, put, puts, nothing}

pub puts_append : (w : Written) (a b : List Lexeme) → puts w (a ++ b) ≡ puts (puts w a) b
puts_append w [] b = refl
puts_append w (t ∷ a) b = puts_append (put w t) a b

-- the text grows by the text of the lexemes
pub text_of_puts : (ts : List Lexeme) (w : Written) → (puts w ts).text ≡ w.text ++ spelled_behind w.second w.first ts
unfolding put
text_of_puts [] w = sym (append-nil w.text)
text_of_puts (t ∷ ts) w =
    text_of_puts ts (put w t) ∙ append_assoc (w.text ++ gap w.second w.first t.kind) (spelling t) (spelled_behind w.first t.kind ts) ∙
    append_assoc w.text (gap w.second w.first t.kind) (spelling t ++ spelled_behind w.first t.kind ts) ∙ ap (λ s. w.text ++ s) (sym (append_assoc (gap w.second w.first t.kind) (spelling t) (spelled_behind w.first t.kind ts)))

pub puts_spelled : (ts : List Lexeme) → (puts nothing ts).text ≡ spelled ts
unfolding spelled
puts_spelled ts = text_of_puts ts nothing

-- ---- the lists of a print, one lexeme or part after another

abbrev pub left : Lexeme
left = token k.LParen

abbrev pub right : Lexeme
right = token k.RParen

pub flat_not : (w : Written) (x : Print) → puts w (in_parens (token k.Not ∷ x)) ≡ put (puts (put (put w left) (token k.Not)) x) right
flat_not w x = puts_append (put (put w left) (token k.Not)) x (right ∷ [])

pub flat_binary : (w : Written) (t : Lexeme) (x y : Print) → puts w (in_parens (x ++ t ∷ y)) ≡ put (puts (put (puts (put w left) x) t) y) right
flat_binary w t x y = puts_append (put w left) (x ++ t ∷ y) (right ∷ []) ∙ ap (λ v. put v right) (puts_append (put w left) x (t ∷ y))

pub flat_is_null : (w : Written) (x n : Print) → puts w (in_parens (x ++ token k.Is ∷ n ++ token k.Null ∷ [])) ≡ put (put (puts (put (puts (put w left) x) (token k.Is)) n) (token k.Null)) right
flat_is_null w x n =
    puts_append (put w left) (x ++ token k.Is ∷ n ++ token k.Null ∷ []) (right ∷ []) ∙
    ap (λ v. put v right) (puts_append (put w left) (x ++ token k.Is ∷ n) (token k.Null ∷ []) ∙ ap (λ v. put v (token k.Null)) (puts_append (put w left) x (token k.Is ∷ n)))

pub flat_in_list : (w : Written) (x n ys : Print) → puts w (in_parens (x ++ n ++ token k.In ∷ in_parens ys)) ≡ put (put (puts (put (put (puts (puts (put w left) x) n) (token k.In)) left) ys) right) right
flat_in_list w x n ys =
    puts_append (put w left) (x ++ n ++ token k.In ∷ in_parens ys) (right ∷ []) ∙ ap (λ v. put v right)
    (puts_append (put w left) (x ++ n) (token k.In ∷ in_parens ys) ∙ ap (λ v. puts v (token k.In ∷ in_parens ys)) (puts_append (put w left) x n) ∙ puts_append (put (put (puts (puts (put w left) x) n) (token k.In)) left) ys (right ∷ []))

pub flat_between : (w : Written) (x n y z : Print) → puts w (in_parens (x ++ n ++ token k.Between ∷ y ++ token k.And ∷ z)) ≡ put (puts (put (puts (put (puts (puts (put w left) x) n) (token k.Between)) y) (token k.And)) z) right
flat_between w x n y z =
    puts_append (put w left) (x ++ n ++ token k.Between ∷ y ++ token k.And ∷ z) (right ∷ []) ∙ ap (λ v. put v right)
    (puts_append (put w left) (x ++ n ++ token k.Between ∷ y) (token k.And ∷ z) ∙ ap (λ v. puts v (token k.And ∷ z)) (puts_append (put w left) (x ++ n) (token k.Between ∷ y) ∙ ap (λ v. puts v (token k.Between ∷ y)) (puts_append (put w left) x n)))

pub flat_call : (w : Written) (t : Lexeme) (x : Print) → puts w (t ∷ in_parens x) ≡ put (puts (put (put w t) left) x) right
flat_call w t x = puts_append (put (put w t) left) x (right ∷ [])

pub flat_cast : (w : Written) (t type : Lexeme) (x : Print) → puts w (t ∷ in_parens (x ++ token k.As ∷ type ∷ [])) ≡ put (put (put (puts (put (put w t) left) x) (token k.As)) type) right
flat_cast w t type x = puts_append (put (put w t) left) (x ++ token k.As ∷ type ∷ []) (right ∷ []) ∙ ap (λ v. put v right) (puts_append (put (put w t) left) x (token k.As ∷ type ∷ []))

pub flat_case_none : (w : Written) (arms : Print) → puts w (token k.Case ∷ arms ++ token k.EndWord ∷ []) ≡ put (puts (put w (token k.Case)) arms) (token k.EndWord)
flat_case_none w arms = puts_append (put w (token k.Case)) arms (token k.EndWord ∷ [])

pub flat_case_some : (w : Written) (arms x : Print) → puts w (token k.Case ∷ arms ++ (token k.Else ∷ x) ++ token k.EndWord ∷ []) ≡ put (puts (put (puts (put w (token k.Case)) arms) (token k.Else)) x) (token k.EndWord)
flat_case_some w arms x =
    puts_append (put w (token k.Case)) (arms ++ (token k.Else ∷ x)) (token k.EndWord ∷ []) ∙ ap (λ v. put v (token k.EndWord)) (puts_append (put w (token k.Case)) arms (token k.Else ∷ x))

abbrev pub only_if : Bool → Lexeme → Print
only_if wanted t = if wanted then t ∷ [] else []

pub flat_neg : (w : Written) (x : Print) → puts w (in_parens (token k.Minus ∷ operand x)) ≡
    put (puts (puts (puts (put (put w left) (token k.Minus)) (only_if (same_kind (kind x) k.Number) left)) x) (only_if (same_kind (kind x) k.Number) right)) right
flat_neg w x = puts_append (put (put w left) (token k.Minus)) (operand x) (right ∷ []) ∙ ap (λ v. put v right) (both (same_kind (kind x) k.Number) (put (put w left) (token k.Minus)))
  where
    both : (b : Bool) (v : Written) → puts v (if b then in_parens x else x) ≡ puts (puts (puts v (only_if b left)) x) (only_if b right)
    both true v = puts_append (put v left) x (right ∷ [])
    both false v = refl

-- ---- lists with commas

abbrev pub commas : Bool → List Print → Print
commas goes_on [] = []
commas true (t ∷ ts) = token k.Comma ∷ t ++ commas true ts
commas false (t ∷ ts) = t ++ commas true ts

pub separated_is : (ts : List Print) → separated ts ≡ commas false ts
separated_is [] = refl
separated_is (t ∷ []) = sym (append-nil t)
separated_is (t ∷ u ∷ ts) = ap (λ s. t ++ token k.Comma ∷ s) (separated_is (u ∷ ts))

-- one part more
pub commas_more : (w : Written) (goes_on : Bool) (t : Print) (ts : List Print) → puts w (commas goes_on (t ∷ ts)) ≡ puts (puts (puts w (only_if goes_on (token k.Comma))) t) (commas true ts)
commas_more w true t ts = puts_append (put w (token k.Comma)) t (commas true ts)
commas_more w false t ts = puts_append w t (commas true ts)

pub all_of_more : (w : Written) (x y : Print) (ts : List Print) → puts w (all_of ((token k.When ∷ x ++ token k.Then ∷ y) ∷ ts)) ≡ puts (puts (put (puts (put w (token k.When)) x) (token k.Then)) y) (all_of ts)
all_of_more w x y ts =
    puts_append w (token k.When ∷ x ++ token k.Then ∷ y) (all_of ts) ∙ ap (λ v. puts v (all_of ts)) (puts_append (put w (token k.When)) x (token k.Then ∷ y))

pub no_commas : (goes_on : Bool) → commas goes_on [] ≡ []
no_commas true = refl
no_commas false = refl

-- ---- statements with semicolons

abbrev pub semicolons : Bool → List Print → Print
semicolons goes_on [] = []
semicolons true (t ∷ ts) = token k.Semicolon ∷ t ++ semicolons true ts
semicolons false (t ∷ ts) = t ++ semicolons true ts

pub print_is : (list : List Statement) → print list ≡ semicolons false (map statement_print list)
print_is [] = refl
print_is (s ∷ []) = sym (append-nil (statement_print s))
print_is (s ∷ next ∷ rest) = ap (λ ts. statement_print s ++ token k.Semicolon ∷ ts) (print_is (next ∷ rest))

pub semicolons_more : (w : Written) (goes_on : Bool) (t : Print) (ts : List Print) → puts w (semicolons goes_on (t ∷ ts)) ≡ puts (puts (puts w (only_if goes_on (token k.Semicolon))) t) (semicolons true ts)
semicolons_more w true t ts = puts_append (put w (token k.Semicolon)) t (semicolons true ts)
semicolons_more w false t ts = puts_append w t (semicolons true ts)

pub no_semicolons : (goes_on : Bool) → semicolons goes_on [] ≡ []
no_semicolons true = refl
no_semicolons false = refl

-- what a last step leaves, where it succeeds
pub ends : (r : Result (Unit {0}) AllocError) (x y z : Written) → OnOk r (x ≡ y) → y ≡ z → OnOk r (x ≡ z)
ends (Ok u) x y z h e = h ∙ e
ends (Err u) x y z h e = h
