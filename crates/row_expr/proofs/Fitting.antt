-- What the operators give fits what is known of their kind.
use Rattle.std.proofs.Common.{◌≡◌, ℕ, zero, suc, ℤ, List, [], ◌∷◌, Bool, true, false, ◌&&◌, ◌||◌, if◌then◌else◌, cond, map, Option, Some, None, Result, Ok, Err, refl, sym, subst}
use Rattle.std.specs.Ordering.{int_eq}
use Rattle.std.specs.Prelude.{pos, neg_ℤ, int_div, slice_get, slice_index_or, option_map}
use Rattle.std.specs.List.{AllByRecursion}
use Rattle.value_core.specs.declared.value.Kind.{Kind}
use Rattle.value_core.specs.declared.value.Kind.TheVariants as kind
use Rattle.value_core.specs.declared.value.Value.{Value}
use Rattle.value_core.specs.declared.value.Value.TheVariants.{Null, Bool as Truth, Int, Big, Str}
use Rattle.value_core.specs.Casts.{cast_text, boolean_of, number_in, trimmed}
use Rattle.value_core.specs.Fits.{is_int, is_big, value_fits, row_fits}
use Rattle.value_core.specs.Order.{Row, is_null, is_true, is_false, same_value}
use Rattle.row_expr.specs.declared.expr.Arithmetic.{Arithmetic}
use Rattle.row_expr.specs.declared.expr.Arithmetic.TheVariants as arithmetic
use Rattle.row_expr.specs.declared.expr.Comparison.{Comparison}
use Rattle.row_expr.specs.declared.sort.Sort.{Sort}
use Rattle.row_expr.specs.declared.sort.Sort.TheVariants.{Ill, Any, Of}
use Rattle.row_expr.specs.Columns.{is_kind}
use Rattle.row_expr.specs.Eval.{Outcome, Fault, Overflow, ZeroDivisor, BadCast}
use Rattle.row_expr.specs.Eval as spec
use Rattle.row_expr.specs.Kinds.{same_kind, join, number, where_of, text, truth, is_condition, where_formed, widened, sort_of_value, calculated}

-- a value is NULL or of the kind; of what has any kind it is NULL, and of what is ill formed nothing is known
abbrev pub sort_fits : Sort → Value → Bool
sort_fits Ill value = true
sort_fits Any value = is_null value
sort_fits (Of k) value = value_fits k value

-- an outcome is a fault or a value that fits
abbrev pub Gives : Sort → Outcome → Type 0
Gives s (Ok value) = sort_fits s value ≡ true
Gives s (Err fault) = Unit {0}

pub and_parts : (a b : Bool) → (a && b) ≡ true → (a ≡ true) × (b ≡ true)
and_parts true b both = (refl, both)
and_parts false b both = absurd (cc both)

same_is : (a b : Kind) → same_kind a b ≡ true → a ≡ b
same_is kind.Bool kind.Bool same = refl
same_is kind.Int kind.Int same = refl
same_is kind.Big kind.Big same = refl
same_is kind.Str kind.Str same = refl
same_is one other same = absurd (cc same)

-- ---- NULL, and what is ill formed

null_fits : (s : Sort) → sort_fits s Null ≡ true
null_fits Ill = refl
null_fits Any = refl
null_fits (Of kind.Bool) = refl
null_fits (Of kind.Int) = refl
null_fits (Of kind.Big) = refl
null_fits (Of kind.Str) = refl

only_null : (s : Sort) (value : Value) → is_null value ≡ true → sort_fits s value ≡ true
only_null s Null is = null_fits s
only_null s value is = absurd (cc is)

pub ill : (o : Outcome) → Gives Ill o
ill (Ok value) = refl
ill (Err fault) = tt

-- a condition's sort, and those that ask for well formed operands
pub formed_gives : (s : Sort) (k : Kind) (o : Outcome) → Gives (Of k) o → Gives (where_formed s (Of k)) o
formed_gives Ill k o f = ill o
formed_gives Any k o f = f
formed_gives (Of l) k o f = f

pub of_gives : (s : Sort) (k : Kind) (o : Outcome) → Gives (Of k) o → Gives (where_of s (Of k)) o
of_gives Ill k o f = ill o
of_gives Any k o f = ill o
of_gives (Of l) k o f = f

pub itself_gives : (s : Sort) (o : Outcome) → Gives s o → Gives (where_of s s) o
itself_gives Ill o f = ill o
itself_gives Any o f = ill o
itself_gives (Of l) o f = f

pub truth_gives : (s t : Sort) (o : Outcome) → Gives (Of kind.Bool) o → Gives (truth s t) o
truth_gives s t o f = by_test (is_condition s && is_condition t)
  where
    by_test : (b : Bool) → Gives (if b then Of kind.Bool else Ill) o
    by_test true = f
    by_test false = ill o

-- ---- joins

left_fits : (s t : Sort) (value : Value) → sort_fits s value ≡ true → sort_fits (join s t) value ≡ true
left_fits Ill Ill value f = refl
left_fits Ill Any value f = refl
left_fits Ill (Of l) value f = refl
left_fits Any t value f = only_null t value f
left_fits (Of k) Ill value f = refl
left_fits (Of k) Any value f = f
left_fits (Of k) (Of l) value f = by_test (same_kind k l)
  where
    by_test : (b : Bool) → sort_fits (if b then Of k else Ill) value ≡ true
    by_test true = f
    by_test false = refl

right_fits : (s t : Sort) (value : Value) → sort_fits t value ≡ true → sort_fits (join s t) value ≡ true
right_fits Any t value f = f
right_fits Ill Ill value f = refl
right_fits Ill Any value f = refl
right_fits Ill (Of l) value f = refl
right_fits (Of k) Ill value f = refl
right_fits (Of k) Any value f = only_null (Of k) value f
right_fits (Of k) (Of l) value f = by_test (same_kind k l) refl
  where
    by_test : (b : Bool) → same_kind k l ≡ b → sort_fits (if b then Of k else Ill) value ≡ true
    by_test true same = subst (λ z. value_fits z value ≡ true) (sym (same_is k l same)) f
    by_test false same = refl

pub left_gives : (s t : Sort) (o : Outcome) → Gives s o → Gives (join s t) o
left_gives s t (Ok value) f = left_fits s t value f
left_gives s t (Err fault) f = tt

pub right_gives : (s t : Sort) (o : Outcome) → Gives t o → Gives (join s t) o
right_gives s t (Ok value) f = right_fits s t value f
right_gives s t (Err fault) f = tt

-- ---- literals and columns

pub literal_fits : (value : Value) → sort_fits (sort_of_value value) value ≡ true
literal_fits Null = refl
literal_fits (Truth b) = refl
literal_fits (Int n) = refl
literal_fits (Big n) = refl
literal_fits (Str s) = refl

pub column_fits : (kinds : List Kind) (row : Row) (at : ℕ) (k : Kind) → row_fits kinds row ≡ true → is_kind k (slice_get kinds at) ≡ true →
    value_fits k (slice_index_or row at Null) ≡ true
column_fits [] row at k fits is = absurd (cc is)
column_fits (l ∷ kinds) [] at k fits is = absurd (cc fits)
column_fits (l ∷ kinds) (value ∷ row) zero k fits is =
    subst (λ z. value_fits z value ≡ true) (sym (same_is k l is)) (and_parts (value_fits l value) (row_fits kinds row) fits).0
column_fits (l ∷ kinds) (value ∷ row) (suc at) k fits is = column_fits kinds row at k (and_parts (value_fits l value) (row_fits kinds row) fits).1 is

-- ---- numbers

int_gives : (n : ℤ) → Gives (Of kind.Int) (spec.as_int n)
int_gives n = by_test (is_int n)
  where
    by_test : (b : Bool) → Gives (Of kind.Int) (if b then Ok (Int n) else Err Overflow)
    by_test true = refl
    by_test false = tt

big_gives : (n : ℤ) → Gives (Of kind.Big) (spec.as_big n)
big_gives n = by_test (is_big n)
  where
    by_test : (b : Bool) → Gives (Of kind.Big) (if b then Ok (Big n) else Err Overflow)
    by_test true = refl
    by_test false = tt

unless_zero_gives : (s : Sort) (divisor : ℤ) (o : Outcome) → Gives s o → Gives s (spec.unless_zero divisor o)
unless_zero_gives s divisor o f = by_test (int_eq divisor (pos 0))
  where
    by_test : (b : Bool) → Gives s (if b then Err ZeroDivisor else o)
    by_test true = tt
    by_test false = f

-- a number of the kind of an operand
alike_gives : (s : Sort) (value : Value) (n : ℤ) → is_null value ≡ false → sort_fits s value ≡ true → Gives (number s) (spec.as_kind_of value n)
alike_gives Ill value n known f = ill (spec.as_kind_of value n)
alike_gives Any value n known f = ill (spec.as_kind_of value n)
alike_gives (Of kind.Bool) value n known f = ill (spec.as_kind_of value n)
alike_gives (Of kind.Str) value n known f = ill (spec.as_kind_of value n)
alike_gives (Of kind.Int) (Int m) n known f = int_gives n
alike_gives (Of kind.Int) Null n known f = absurd (cc known)
alike_gives (Of kind.Int) value n known f = absurd (cc f)
alike_gives (Of kind.Big) (Big m) n known f = big_gives n
alike_gives (Of kind.Big) Null n known f = absurd (cc known)
alike_gives (Of kind.Big) value n known f = absurd (cc f)

abbrev negative : Value → ℤ
negative value = neg_ℤ (spec.number_of value)

pub negate_gives : (s : Sort) (o : Outcome) → Gives s o → Gives (number s) (spec.and_then spec.negated o)
negate_gives s (Err fault) f = tt
negate_gives s (Ok Null) f = null_fits (number s)
negate_gives s (Ok (Truth b)) f = alike_gives s (Truth b) (negative (Truth b)) refl f
negate_gives s (Ok (Int n)) f = alike_gives s (Int n) (negative (Int n)) refl f
negate_gives s (Ok (Big n)) f = alike_gives s (Big n) (negative (Big n)) refl f
negate_gives s (Ok (Str t)) f = alike_gives s (Str t) (negative (Str t)) refl f

pub widen_gives : (s : Sort) (o : Outcome) → Gives s o → Gives (widened s) (spec.and_then spec.widened o)
widen_gives s (Err fault) f = tt
widen_gives s (Ok Null) f = null_fits (widened s)
widen_gives (Of kind.Int) (Ok (Int n)) f = refl
widen_gives (Of kind.Int) (Ok value) f = absurd (cc f)
widen_gives Ill (Ok value) f = ill (spec.widened value)
widen_gives Any (Ok value) f = ill (spec.widened value)
widen_gives (Of kind.Bool) (Ok value) f = ill (spec.widened value)
widen_gives (Of kind.Big) (Ok value) f = ill (spec.widened value)
widen_gives (Of kind.Str) (Ok value) f = ill (spec.widened value)

-- ---- two operands

both_gives : (s : Sort) (op : Value → Value → Outcome) (o p : Outcome) →
    ((a b : Value) → o ≡ Ok a → is_null a ≡ false → Gives s (op a b)) → Gives s (spec.both op o p)
both_gives s op (Err fault) p f = tt
both_gives s op (Ok a) (Err fault) f = tt
both_gives s op (Ok a) (Ok b) f = by_null (is_null a) (is_null b) refl
  where
    by_null : (m n : Bool) → is_null a ≡ m → Gives s (if m || n then Ok Null else op a b)
    by_null true n is = null_fits s
    by_null false true is = null_fits s
    by_null false false is = f a b refl is

quotient_gives : (s : Sort) (divisor : ℤ) (o : Outcome) → Gives (Of kind.Big) o → Gives (where_of (number s) (Of kind.Big)) (spec.unless_zero divisor o)
quotient_gives s divisor o f = of_gives (number s) kind.Big (spec.unless_zero divisor o) (unless_zero_gives (Of kind.Big) divisor o f)

calculated_gives : (op : Arithmetic) (s : Sort) (a b : Value) → is_null a ≡ false → sort_fits s a ≡ true → Gives (calculated op s) (spec.calculated op a b)
calculated_gives arithmetic.Add s a b known f = alike_gives s a _ known f
calculated_gives arithmetic.Sub s a b known f = alike_gives s a _ known f
calculated_gives arithmetic.Mul s a b known f = alike_gives s a _ known f
calculated_gives arithmetic.Div s a b known f = quotient_gives s (spec.number_of b) _ (big_gives (int_div (spec.number_of a) (spec.number_of b)))
calculated_gives arithmetic.Rem s a b known f = unless_zero_gives (number s) (spec.number_of b) _ (alike_gives s a _ known f)

pub arithmetic_gives : (op : Arithmetic) (s t : Sort) (o p : Outcome) → Gives s o → Gives (calculated op (join s t)) (spec.both (spec.calculated op) o p)
arithmetic_gives op s t o p f =
    both_gives (calculated op (join s t)) (spec.calculated op) o p
    (λ a b is known. calculated_gives op (join s t) a b known (left_fits s t a (subst (Gives s) is f)))

joined_gives : (a b : Value) → Gives (Of kind.Str) (spec.joined a b)
joined_gives (Str s) (Str t) = refl
joined_gives a b = refl

text_gives : (s : Sort) (o : Outcome) → Gives (Of kind.Str) o → Gives (text s) o
text_gives (Of kind.Str) o f = f
text_gives (Of kind.Bool) o f = ill o
text_gives (Of kind.Int) o f = ill o
text_gives (Of kind.Big) o f = ill o
text_gives Ill o f = ill o
text_gives Any o f = ill o

pub concat_gives : (s : Sort) (o p : Outcome) → Gives (text s) (spec.both spec.joined o p)
concat_gives s o p = text_gives s (spec.both spec.joined o p) (both_gives (Of kind.Str) spec.joined o p (λ a b is known. joined_gives a b))

compared_gives : (by : Comparison) (o p : Outcome) → Gives (Of kind.Bool) (spec.both (spec.compared by) o p)
compared_gives by o p = both_gives (Of kind.Bool) (spec.compared by) o p (λ a b is known. refl)

pub compare_gives : (s : Sort) (by : Comparison) (o p : Outcome) → Gives (where_of s (Of kind.Bool)) (spec.both (spec.compared by) o p)
compare_gives s by o p = of_gives s kind.Bool (spec.both (spec.compared by) o p) (compared_gives by o p)

-- ---- truth

met_fits : (a b : Value) → value_fits kind.Bool (spec.met a b) ≡ true
met_fits a b = by_test (is_false b) (is_null a || is_null b)
  where
    by_test : (no none : Bool) → value_fits kind.Bool (if no then Truth false else (if none then Null else Truth true)) ≡ true
    by_test true none = refl
    by_test false true = refl
    by_test false false = refl

pub conjunction_gives : (o p : Outcome) → Gives (Of kind.Bool) (spec.conjunction o p)
conjunction_gives (Err fault) p = tt
conjunction_gives (Ok a) p = by_test (is_false a) p
  where
    by_test : (no : Bool) (p : Outcome) → Gives (Of kind.Bool) (if no then Ok (Truth false) else spec.and_then (λ b. Ok (spec.met a b)) p)
    by_test true p = refl
    by_test false (Err fault) = tt
    by_test false (Ok b) = met_fits a b

pub opposite_gives : (o : Outcome) → Gives (Of kind.Bool) (spec.and_then spec.opposite o)
opposite_gives (Err fault) = tt
opposite_gives (Ok (Truth b)) = refl
opposite_gives (Ok value) = refl

pub disjunction_gives : (o p : Outcome) → Gives (Of kind.Bool) (spec.disjunction o p)
disjunction_gives o p = opposite_gives (spec.conjunction (spec.and_then spec.opposite o) (spec.and_then spec.opposite p))

pub null_test_gives : (o : Outcome) → Gives (Of kind.Bool) (spec.and_then (λ value. Ok (Truth (is_null value))) o)
null_test_gives (Err fault) = tt
null_test_gives (Ok value) = refl

among_gives : (a : Value) (met_null : Bool) (elements : List Outcome) → Gives (Of kind.Bool) (spec.among a met_null elements)
among_gives a true [] = refl
among_gives a false [] = refl
among_gives a met_null (Err fault ∷ more) = tt
among_gives a met_null (Ok b ∷ more) = by_test (is_null b) (same_value a b) (among_gives a true more) (among_gives a met_null more)
  where
    by_test : (none same : Bool) → Gives (Of kind.Bool) (spec.among a true more) → Gives (Of kind.Bool) (spec.among a met_null more) →
        Gives (Of kind.Bool) (if none then spec.among a true more else (if same then Ok (Truth true) else spec.among a met_null more))
    by_test true same f g = f
    by_test false true f g = refl
    by_test false false f g = g

pub listed_gives : (o : Outcome) (elements : List Outcome) → Gives (Of kind.Bool) (spec.listed o elements)
listed_gives (Err fault) elements = tt
listed_gives (Ok a) elements = by_test (is_null a)
  where
    by_test : (none : Bool) → Gives (Of kind.Bool) (if none then Ok Null else spec.among a false elements)
    by_test true = refl
    by_test false = among_gives a false elements

pub within_gives : (o low high : Outcome) → Gives (Of kind.Bool) (spec.within o low high)
within_gives (Err fault) low high = tt
within_gives (Ok a) (Err fault) high = tt
within_gives (Ok a) (Ok b) (Err fault) = tt
within_gives (Ok a) (Ok b) (Ok c) = conjunction_gives _ _

-- ---- choices

pub chosen_gives : (s : Sort) (arms : List (Outcome × Outcome)) (other : Outcome) → AllByRecursion (λ arm. Gives s arm.1) arms → Gives s other → Gives s (spec.chosen arms other)
chosen_gives s [] other f g = g
chosen_gives s (arm ∷ more) other f g = by_condition arm.0 (chosen_gives s more other f.1 g)
  where
    by_test : (yes : Bool) → Gives s (spec.chosen more other) → Gives s (if yes then arm.1 else spec.chosen more other)
    by_test true rest = f.0
    by_test false rest = rest

    by_condition : (condition : Outcome) → Gives s (spec.chosen more other) → Gives s (spec.and_then (λ value. if is_true value then arm.1 else spec.chosen more other) condition)
    by_condition (Err fault) rest = tt
    by_condition (Ok value) rest = by_test (is_true value) rest

pub known_gives : (s : Sort) (operands : List Outcome) → AllByRecursion (Gives s) operands → Gives s (spec.first_known operands)
known_gives s [] f = null_fits s
known_gives s (Err fault ∷ more) f = tt
known_gives s (Ok a ∷ more) f = by_test (is_null a) (known_gives s more f.1)
  where
    by_test : (none : Bool) → Gives s (spec.first_known more) → Gives s (if none then spec.first_known more else Ok a)
    by_test true rest = rest
    by_test false rest = f.0

-- ---- CAST

read_gives : {A : Type 0} (k : Kind) (make : A → Value) (read : Option A) → ((a : A) → value_fits k (make a) ≡ true) → Gives (Of k) (spec.or_bad_cast (option_map make read))
read_gives k make None f = tt
read_gives k make (Some a) f = f a

text_cast_gives : (to : Kind) (s : List ℕ) → Gives (Of to) (spec.or_bad_cast (cast_text to s))
text_cast_gives kind.Str s = refl
text_cast_gives kind.Bool s = read_gives kind.Bool Truth (boolean_of (trimmed s)) (λ b. refl)
text_cast_gives kind.Int s = read_gives kind.Int Int (number_in is_int (trimmed s)) (λ n. refl)
text_cast_gives kind.Big s = read_gives kind.Big Big (number_in is_big (trimmed s)) (λ n. refl)

number_cast_gives : (to : Kind) (a : Value) → Gives (Of to) (spec.cast_number to a)
number_cast_gives kind.Str a = refl
number_cast_gives kind.Bool a = refl
number_cast_gives kind.Big a = refl
number_cast_gives kind.Int a = by_test (is_int (spec.as_number a))
  where
    by_test : (b : Bool) → Gives (Of kind.Int) (if b then Ok (Int (spec.as_number a)) else Err BadCast)
    by_test true = refl
    by_test false = tt

value_cast_gives : (to : Kind) (a : Value) → Gives (Of to) (spec.cast to a)
value_cast_gives to Null = null_fits (Of to)
value_cast_gives to (Str s) = text_cast_gives to s
value_cast_gives to (Truth b) = number_cast_gives to (Truth b)
value_cast_gives to (Int n) = number_cast_gives to (Int n)
value_cast_gives to (Big n) = number_cast_gives to (Big n)

pub cast_gives : (to : Kind) (o : Outcome) → Gives (Of to) (spec.and_then (spec.cast to) o)
cast_gives to (Err fault) = tt
cast_gives to (Ok a) = value_cast_gives to a

tried_gives : (to : Kind) (o : Outcome) → Gives (Of to) o → Gives (Of to) (spec.null_for_bad_cast o)
tried_gives to (Ok a) f = f
tried_gives to (Err BadCast) f = null_fits (Of to)
tried_gives to (Err Overflow) f = tt
tried_gives to (Err ZeroDivisor) f = tt

pub try_cast_gives : (to : Kind) (o : Outcome) → Gives (Of to) (spec.and_then (λ value. spec.null_for_bad_cast (spec.cast to value)) o)
try_cast_gives to (Err fault) = tt
try_cast_gives to (Ok a) = tried_gives to (spec.cast to a) (value_cast_gives to a)
