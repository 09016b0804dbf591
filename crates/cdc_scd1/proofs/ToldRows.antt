-- The row of a history is the one that its stamps tell.
use Rattle.std.proofs.Common.{◌≡◌, Bool, true, false, not, ◌&&◌, if◌then◌else◌, List, [], ◌∷◌, map, fold, Option, Some, None, refl, sym, ap, ◌∙◌, subst}
use Rattle.std.specs.declared.cmp.Ordering.{Ordering}
use Rattle.std.specs.declared.cmp.Ordering.TheVariants.{Less, Equal, Greater}
use Rattle.std.specs.Ordering.{is_eq, is_gt, ordering_reverse}
use Rattle.value_core.specs.declared.event.Event.{Event}
use Rattle.value_core.specs.declared.event.EventKind.{EventKind}
use Rattle.value_core.specs.declared.event.EventKind.TheVariants.{Upsert, Delete, Truncate}
use Rattle.value_core.specs.declared.value.Value.{Value}
use Rattle.value_core.specs.declared.value.Value.TheVariants.{Null, Bool as Truth, Int, Big, Str}
use Rattle.value_core.specs.Order.{Row, row_order, is_null}
use Rattle.value_core.specs.OrderLaws.{row_order_total, same_row_laws}
use Rattle.flow_model.specs.Current.{after_event, merged, overlaid}
use Rattle.cdc_scd1.specs.Stamps.{Cell, Stamps, no_event, is_later, isnt_before, latest, cell_after, unset, cells_after, stamped, stamped_by, outlives, shown, row_told, IsBeforeBy, AllBehind, AreInTurn}

-- ---- sequences

turned : (a b : Row) → row_order a b ≡ Less → row_order b a ≡ Greater
turned a b e = row_order_total.antisymm b a ∙ ap ordering_reverse e

turned_back : (a b : Row) → row_order a b ≡ Greater → row_order b a ≡ Less
turned_back a b e = row_order_total.antisymm b a ∙ ap ordering_reverse e

is_greater : (o : Ordering) → is_gt o ≡ true → o ≡ Greater
is_greater Less e = cc
is_greater Equal e = cc
is_greater Greater e = refl

below_by : (a b c : Row) (o : Ordering) → row_order a b ≡ o → is_gt o ≡ false → row_order b c ≡ Less → row_order a c ≡ Less
below_by a b c Less e notgt less = row_order_total.trans a b c e less
below_by a b c Equal e notgt less = row_order_total.congr a b c e ∙ less
below_by a b c Greater e notgt less = cc

-- what isn't above something is below what is above that
below : (a b c : Row) → is_gt (row_order a b) ≡ false → row_order b c ≡ Less → row_order a c ≡ Less
below a b c notgt less = below_by a b c (row_order a b) refl notgt less

below_upto_by : (a b c : Row) (o : Ordering) → row_order a b ≡ Less → row_order c b ≡ o → is_gt (ordering_reverse o) ≡ false → row_order a c ≡ Less
below_upto_by a b c Less e f notgt = cc
below_upto_by a b c Equal e f notgt = turned_less a b c e f
  where
    turned_less : (a b c : Row) → row_order a b ≡ Less → row_order c b ≡ Equal → row_order a c ≡ Less
    turned_less a b c e f = turned_back c a (row_order_total.congr c b a f ∙ turned a b e)
below_upto_by a b c Greater e f notgt = row_order_total.trans a b c e (turned_back c b f)

-- what is below something is below what that isn't above
below_upto : (a b c : Row) → row_order a b ≡ Less → is_gt (row_order b c) ≡ false → row_order a c ≡ Less
below_upto a b c e notgt = below_upto_by a b c (row_order c b) e refl (ap is_gt (sym (row_order_total.antisymm b c)) ∙ notgt)

-- what isn't above something isn't above what that isn't above
upto_by : (a b c : Row) (o : Ordering) → row_order a b ≡ o → is_gt o ≡ false → is_gt (row_order b c) ≡ false → is_gt (row_order a c) ≡ false
upto_by a b c Less e notgt more = ap is_gt (below_upto a b c e more)
upto_by a b c Equal e notgt more = ap is_gt (row_order_total.congr a b c e) ∙ more
upto_by a b c Greater e notgt more = cc

upto : (a b c : Row) → is_gt (row_order a b) ≡ false → is_gt (row_order b c) ≡ false → is_gt (row_order a c) ≡ false
upto a b c notgt more = upto_by a b c (row_order a b) refl notgt more

upto_itself : (a : Row) → is_gt (row_order a a) ≡ false
upto_itself a = by (row_order a a) (same_row_laws.refl a)
  where
    by : (o : Ordering) → is_eq o ≡ true → is_gt o ≡ false
    by Less e = refl
    by Equal e = refl
    by Greater e = cc

-- ---- known sequences

IsBelow : Option Row → Row → Type 0
IsBelow None s = Unit {0}
IsBelow (Some known) s = row_order known s ≡ Less

IsUpTo : Option Row → Row → Type 0
IsUpTo None s = Unit {0}
IsUpTo (Some known) s = is_gt (row_order known s) ≡ false

later_below : (known : Option Row) (s : Row) → IsBelow known s → is_later known s ≡ true
unfolding IsBelow
later_below None s low = refl
later_below (Some known) s low = ap is_gt (turned known s low)

latest_below : (known : Option Row) (s : Row) → IsBelow known s → latest known s ≡ Some s
latest_below known s low = ap (λ b. if b then Some s else known) (later_below known s low)

upto_is : (known : Option Row) (s : Row) → IsUpTo known s → isnt_before known s ≡ true
unfolding IsUpTo
upto_is None s low = refl
upto_is (Some known) s low = ap not low

both : (a b : Bool) → a ≡ true → b ≡ true → (a && b) ≡ true
both true true p q = refl
both true false p q = q
both false b p q = p

-- what is set at a sequence behind the clears is there
there : (deleted truncated : Option Row) (s : Row) → IsBelow deleted s → IsUpTo truncated s → outlives deleted truncated (Some s) ≡ true
there deleted truncated s low up = both (is_later deleted s) (isnt_before truncated s) (later_below deleted s low) (upto_is truncated s up)

-- ---- what was set earlier is cleared with what was set later

later_more : (known : Option Row) (s u : Row) → is_gt (row_order s u) ≡ false → is_later known s ≡ true → is_later known u ≡ true
later_more None s u up later = refl
later_more (Some known) s u up later = ap is_gt (turned known u (below_upto known s u (turned_back s known (is_greater (row_order s known) later)) up))

not_true : (b : Bool) → not b ≡ true → b ≡ false
not_true true e = cc
not_true false e = refl

before_more : (known : Option Row) (s u : Row) → is_gt (row_order s u) ≡ false → isnt_before known s ≡ true → isnt_before known u ≡ true
before_more None s u up isnt = refl
before_more (Some known) s u up isnt = ap not (upto known s u (not_true (is_gt (row_order known s)) isnt) up)

first_of_both : (a b : Bool) → (a && b) ≡ true → a ≡ true
first_of_both true b e = refl
first_of_both false b e = e

last_of_both : (a b : Bool) → (a && b) ≡ true → b ≡ true
last_of_both true b e = e
last_of_both false b e = cc

outlives_more : (deleted truncated : Option Row) (s u : Row) → is_gt (row_order s u) ≡ false → outlives deleted truncated (Some s) ≡ true → outlives deleted truncated (Some u) ≡ true
outlives_more deleted truncated s u up is =
    both (is_later deleted u) (isnt_before truncated u) (later_more deleted s u up (first_of_both (is_later deleted s) (isnt_before truncated s) is))
    (before_more truncated s u up (last_of_both (is_later deleted s) (isnt_before truncated s) is))

-- a stamp isn't above the greatest upsert
IsWithin : Option Row → Option Row → Type 0
IsWithin upserted None = Unit {0}
IsWithin None (Some s) = ⊥
IsWithin (Some u) (Some s) = is_gt (row_order s u) ≡ false

AllWithin : Option Row → List Cell → Type 0
AllWithin upserted [] = Unit {0}
AllWithin upserted (cell ∷ cells) = IsWithin upserted cell.stamp × AllWithin upserted cells

contrary : (a b : Bool) → (a ≡ true → b ≡ true) → b ≡ false → a ≡ false
contrary true b f e = sym (f refl) ∙ e
contrary false b f e = refl

cleared_too : (deleted truncated upserted stamp : Option Row) → IsWithin upserted stamp → outlives deleted truncated upserted ≡ false → outlives deleted truncated stamp ≡ false
unfolding IsWithin
cleared_too deleted truncated upserted None within gone = refl
cleared_too deleted truncated None (Some s) within gone = absurd within
cleared_too deleted truncated (Some u) (Some s) within gone =
    contrary (outlives deleted truncated (Some s)) (outlives deleted truncated (Some u)) (outlives_more deleted truncated s u within) gone

stamp_below : (upserted stamp : Option Row) (s : Row) → IsWithin upserted stamp → IsBelow upserted s → IsBelow stamp s
unfolding IsWithin IsBelow
stamp_below upserted None s within low = tt
stamp_below None (Some t) s within low = absurd within
stamp_below (Some u) (Some t) s within low = below t u s within low

-- ---- one upsert

null_is : (value : Value) → is_null value ≡ true → value ≡ Null
null_is Null e = refl
null_is (Truth b) e = cc
null_is (Int n) e = cc
null_is (Big n) e = cc
null_is (Str text) e = cc

-- what a column shows after an upsert behind all others
cell_by : (ignored : Bool) (deleted truncated : Option Row) (s : Row) (value : Value) (cell : Cell) (later : Bool) → later ≡ true → outlives deleted truncated (Some s) ≡ true
    → shown deleted truncated (if ignored then cell else (if later then record { value = value; stamp = Some s } else cell)) ≡ (if ignored then shown deleted truncated cell else value)
cell_by true deleted truncated s value cell later is stays = refl
cell_by false deleted truncated s value cell true is stays = ap (λ b. if b then value else Null) stays
cell_by false deleted truncated s value cell false is stays = cc

cell_shows : (ignore_null : Bool) (deleted truncated : Option Row) (s : Row) (value : Value) (cell : Cell) → IsBelow cell.stamp s → outlives deleted truncated (Some s) ≡ true
    → shown deleted truncated (cell_after ignore_null s value cell) ≡ (if ignore_null && is_null value then shown deleted truncated cell else value)
cell_shows ignore_null deleted truncated s value cell low stays =
    cell_by (ignore_null && is_null value) deleted truncated s value cell (is_later cell.stamp s) (later_below cell.stamp s low) stays

-- a column that shows NULL takes the value as it is
null_or : (ignore_null b : Bool) (old value : Value) → is_null value ≡ b → old ≡ Null → (if ignore_null && b then old else value) ≡ value
null_or true true old value e is = is ∙ sym (null_is value e)
null_or true false old value e is = refl
null_or false b old value e is = refl

cell_set : (ignore_null : Bool) (deleted truncated : Option Row) (s : Row) (value : Value) (cell : Cell) → IsBelow cell.stamp s → outlives deleted truncated (Some s) ≡ true
    → shown deleted truncated cell ≡ Null → shown deleted truncated (cell_after ignore_null s value cell) ≡ value
cell_set ignore_null deleted truncated s value cell low stays hidden =
    cell_shows ignore_null deleted truncated s value cell low stays ∙ null_or ignore_null (is_null value) (shown deleted truncated cell) value refl hidden

unset_below : (s : Row) → IsBelow None s
unfolding IsBelow
unset_below s = tt

new_cells : (ignore_null : Bool) (deleted truncated : Option Row) (s : Row) (values : List Value) → outlives deleted truncated (Some s) ≡ true
    → map (shown deleted truncated) (cells_after ignore_null s values []) ≡ values
new_cells ignore_null deleted truncated s [] stays = refl
new_cells ignore_null deleted truncated s (value ∷ values) stays =
    let here : shown deleted truncated (cell_after ignore_null s value unset) ≡ value = cell_set ignore_null deleted truncated s value unset (unset_below s) stays refl in
    let rest : map (shown deleted truncated) (cells_after ignore_null s values []) ≡ values = new_cells ignore_null deleted truncated s values stays in
    λ i. here i ∷ rest i

-- columns that show nothing become the upsert's
cells_set : (ignore_null : Bool) (deleted truncated upserted : Option Row) (s : Row) (values : List Value) (cells : List Cell) → AllWithin upserted cells → IsBelow upserted s
    → outlives deleted truncated (Some s) ≡ true → outlives deleted truncated upserted ≡ false → map (shown deleted truncated) (cells_after ignore_null s values cells) ≡ values
unfolding AllWithin
cells_set ignore_null deleted truncated upserted s [] cells within low stays gone = refl
cells_set ignore_null deleted truncated upserted s (value ∷ values) [] within low stays gone = new_cells ignore_null deleted truncated s (value ∷ values) stays
cells_set ignore_null deleted truncated upserted s (value ∷ values) (cell ∷ cells) within low stays gone =
    let hidden : shown deleted truncated cell ≡ Null = ap (λ b. if b then cell.value else Null) (cleared_too deleted truncated upserted cell.stamp within.0 gone) in
    let here : shown deleted truncated (cell_after ignore_null s value cell) ≡ value = cell_set ignore_null deleted truncated s value cell (stamp_below upserted cell.stamp s within.0 low) stays hidden in
    let rest : map (shown deleted truncated) (cells_after ignore_null s values cells) ≡ values = cells_set ignore_null deleted truncated upserted s values cells within.1 low stays gone in
    λ i. here i ∷ rest i

-- without IGNORE NULL UPDATES they are the upsert's in any case
cells_replaced : (deleted truncated upserted : Option Row) (s : Row) (values : List Value) (cells : List Cell) → AllWithin upserted cells → IsBelow upserted s
    → outlives deleted truncated (Some s) ≡ true → map (shown deleted truncated) (cells_after false s values cells) ≡ values
unfolding AllWithin
cells_replaced deleted truncated upserted s [] cells within low stays = refl
cells_replaced deleted truncated upserted s (value ∷ values) [] within low stays = new_cells false deleted truncated s (value ∷ values) stays
cells_replaced deleted truncated upserted s (value ∷ values) (cell ∷ cells) within low stays =
    let here : shown deleted truncated (cell_after false s value cell) ≡ value = cell_shows false deleted truncated s value cell (stamp_below upserted cell.stamp s within.0 low) stays in
    let rest : map (shown deleted truncated) (cells_after false s values cells) ≡ values = cells_replaced deleted truncated upserted s values cells within.1 low stays in
    λ i. here i ∷ rest i

-- with it they are laid over those that show
cells_overlaid : (deleted truncated upserted : Option Row) (s : Row) (values : List Value) (cells : List Cell) → AllWithin upserted cells → IsBelow upserted s
    → outlives deleted truncated (Some s) ≡ true → map (shown deleted truncated) (cells_after true s values cells) ≡ overlaid (map (shown deleted truncated) cells) values
unfolding AllWithin
cells_overlaid deleted truncated upserted s [] [] within low stays = refl
cells_overlaid deleted truncated upserted s [] (cell ∷ cells) within low stays = refl
cells_overlaid deleted truncated upserted s (value ∷ values) [] within low stays = new_cells true deleted truncated s (value ∷ values) stays
cells_overlaid deleted truncated upserted s (value ∷ values) (cell ∷ cells) within low stays =
    let here : shown deleted truncated (cell_after true s value cell) ≡ (if is_null value then shown deleted truncated cell else value) =
    cell_shows true deleted truncated s value cell (stamp_below upserted cell.stamp s within.0 low) stays in
    let rest : map (shown deleted truncated) (cells_after true s values cells) ≡ overlaid (map (shown deleted truncated) cells) values =
    cells_overlaid deleted truncated upserted s values cells within.1 low stays in
    λ i. here i ∷ rest i

cells_told : (ignore_null there : Bool) (deleted truncated upserted : Option Row) (s : Row) (values : List Value) (cells : List Cell) → AllWithin upserted cells → IsBelow upserted s
    → outlives deleted truncated (Some s) ≡ true → outlives deleted truncated upserted ≡ there
    → map (shown deleted truncated) (cells_after ignore_null s values cells)
    ≡ (if ignore_null then merged (if there then Some (map (shown deleted truncated) cells) else None) values else values)
cells_told false there deleted truncated upserted s values cells within low stays is = cells_replaced deleted truncated upserted s values cells within low stays
cells_told true true deleted truncated upserted s values cells within low stays is = cells_overlaid deleted truncated upserted s values cells within low stays
cells_told true false deleted truncated upserted s values cells within low stays is = cells_set true deleted truncated upserted s values cells within low stays is

-- ---- stamps stay within the greatest upsert

within_old : (upserted stamp : Option Row) (s : Row) → IsWithin upserted stamp → IsBelow upserted s → IsWithin (Some s) stamp
unfolding IsWithin IsBelow
within_old upserted None s within low = tt
within_old None (Some t) s within low = absurd within
within_old (Some u) (Some t) s within low = ap is_gt (below t u s within low)

within_new : (s : Row) → IsWithin (Some s) (Some s)
unfolding IsWithin
within_new s = upto_itself s

within_cell : (ignored later : Bool) (s : Row) (value : Value) (cell : Cell) → IsWithin (Some s) cell.stamp
    → IsWithin (Some s) (if ignored then cell else (if later then record { value = value; stamp = Some s } else cell)).stamp
within_cell true later s value cell within = within
within_cell false true s value cell within = within_new s
within_cell false false s value cell within = within

within_unset : (s : Row) → IsWithin (Some s) None
unfolding IsWithin
within_unset s = tt

within_after : (ignore_null : Bool) (upserted : Option Row) (s : Row) (values : List Value) (cells : List Cell) → AllWithin upserted cells → IsBelow upserted s
    → AllWithin (Some s) (cells_after ignore_null s values cells)
unfolding AllWithin
within_after ignore_null upserted s [] cells within low = tt
within_after ignore_null upserted s (value ∷ values) [] within low =
    (within_cell (ignore_null && is_null value) (is_later None s) s value unset (within_unset s), within_after ignore_null upserted s values [] tt low)
within_after ignore_null upserted s (value ∷ values) (cell ∷ cells) within low =
    (within_cell (ignore_null && is_null value) (is_later cell.stamp s) s value cell (within_old upserted cell.stamp s within.0 low), within_after ignore_null upserted s values cells within.1 low)

-- ---- an event behind all others

-- the clears and upserts that are known stand before an event of this kind and sequence
record IsReady (stamps : Stamps) (kind : EventKind) (s : Row) : Type 0 where
  pub upserted : IsBelow stamps.upserted s
  pub deleted : IsBelow stamps.deleted s
  pub truncated : IsUpTo stamps.truncated s
  pub truncates : kind ≡ Truncate → IsBelow stamps.truncated s

cleared_by_delete : (truncated upserted : Option Row) (s : Row) → IsBelow upserted s → outlives (Some s) truncated upserted ≡ false
unfolding IsBelow
cleared_by_delete truncated None s low = refl
cleared_by_delete truncated (Some u) s low = ap (λ o. is_gt o && isnt_before truncated u) low

nothing : (a b : Bool) → b ≡ false → (a && b) ≡ false
nothing true b e = e
nothing false b e = refl

cleared_by_truncate : (deleted upserted : Option Row) (s : Row) → IsBelow upserted s → outlives deleted (Some s) upserted ≡ false
unfolding IsBelow
cleared_by_truncate deleted None s low = refl
cleared_by_truncate deleted (Some u) s low = nothing (is_later deleted u) (not (is_gt (row_order s u))) (ap (λ o. not (is_gt o)) (turned u s low))

told_by : (ignore_null : Bool) (stamps : Stamps) (event : Event) (kind : EventKind) → event.kind ≡ kind → AllWithin stamps.upserted stamps.cells → IsReady stamps kind event.sequence
    → row_told (stamped_by ignore_null stamps event kind) ≡ after_event ignore_null (row_told stamps) event
told_by ignore_null stamps event Truncate is within ready =
    let known : latest stamps.truncated event.sequence ≡ Some event.sequence = latest_below stamps.truncated event.sequence (ready.truncates refl) in
    let gone : outlives stamps.deleted (latest stamps.truncated event.sequence) stamps.upserted ≡ false =
    ap (λ t. outlives stamps.deleted t stamps.upserted) known ∙ cleared_by_truncate stamps.deleted stamps.upserted event.sequence ready.upserted in
    rw (gone, is) refl
told_by ignore_null stamps event Delete is within ready =
    let known : latest stamps.deleted event.sequence ≡ Some event.sequence = latest_below stamps.deleted event.sequence ready.deleted in
    let gone : outlives (latest stamps.deleted event.sequence) stamps.truncated stamps.upserted ≡ false =
    ap (λ d. outlives d stamps.truncated stamps.upserted) known ∙ cleared_by_delete stamps.truncated stamps.upserted event.sequence ready.upserted in
    rw (gone, is) refl
told_by ignore_null stamps event Upsert is within ready =
    let known : latest stamps.upserted event.sequence ≡ Some event.sequence = latest_below stamps.upserted event.sequence ready.upserted in
    let stays : outlives stamps.deleted stamps.truncated (Some event.sequence) ≡ true = there stamps.deleted stamps.truncated event.sequence ready.deleted ready.truncated in
    let stay : outlives stamps.deleted stamps.truncated (latest stamps.upserted event.sequence) ≡ true = ap (outlives stamps.deleted stamps.truncated) known ∙ stays in
    let cells = cells_told ignore_null (outlives stamps.deleted stamps.truncated stamps.upserted) stamps.deleted stamps.truncated stamps.upserted event.sequence event.columns stamps.cells within ready.upserted stays refl in
    rw (stay, is) (ap Some cells)

-- ---- the invariant goes on

within_by : (ignore_null : Bool) (stamps : Stamps) (event : Event) (kind : EventKind) → AllWithin stamps.upserted stamps.cells → IsReady stamps kind event.sequence
    → AllWithin (stamped_by ignore_null stamps event kind).upserted (stamped_by ignore_null stamps event kind).cells
within_by ignore_null stamps event Truncate within ready = within
within_by ignore_null stamps event Delete within ready = within
within_by ignore_null stamps event Upsert within ready =
    let known : latest stamps.upserted event.sequence ≡ Some event.sequence = latest_below stamps.upserted event.sequence ready.upserted in
    subst (λ u. AllWithin u (cells_after ignore_null event.sequence event.columns stamps.cells)) (sym known)
    (within_after ignore_null stamps.upserted event.sequence event.columns stamps.cells within ready.upserted)

some_below : (known : Option Row) (first second : Row) → IsBelow known first → row_order first second ≡ Less → IsBelow (latest known first) second
unfolding IsBelow
some_below known first second low less = subst (λ k. IsBelow k second) (sym (latest_below known first low)) less

some_upto : (known : Option Row) (first second : Row) → IsBelow known first → is_gt (row_order first second) ≡ false → IsUpTo (latest known first) second
unfolding IsUpTo
some_upto known first second low less = subst (λ k. IsUpTo k second) (sym (latest_below known first low)) less

some_strictly : (known : Option Row) (first second : Row) → IsBelow known first → row_order first second ≡ Less → IsUpTo (latest known first) second
some_strictly known first second low less = some_upto known first second low (ap is_gt less)

ready_by : (ignore_null : Bool) (stamps : Stamps) (event : Event) (kind next : EventKind) (s : Row) → IsReady stamps kind event.sequence → IsReady stamps next s → IsBeforeBy kind next event.sequence s
    → IsReady (stamped_by ignore_null stamps event kind) next s
ready_by ignore_null stamps event Truncate Truncate s ready old before =
    record { upserted = old.upserted; deleted = old.deleted; truncated = some_strictly stamps.truncated event.sequence s (ready.truncates refl) before; truncates = λ e. some_below stamps.truncated event.sequence s (ready.truncates refl) before }
ready_by ignore_null stamps event Truncate Delete s ready old before =
    record { upserted = old.upserted; deleted = old.deleted; truncated = some_upto stamps.truncated event.sequence s (ready.truncates refl) before; truncates = λ e. cc }
ready_by ignore_null stamps event Truncate Upsert s ready old before =
    record { upserted = old.upserted; deleted = old.deleted; truncated = some_upto stamps.truncated event.sequence s (ready.truncates refl) before; truncates = λ e. cc }
ready_by ignore_null stamps event Delete next s ready old before =
    record { upserted = old.upserted; deleted = some_below stamps.deleted event.sequence s ready.deleted before; truncated = old.truncated; truncates = old.truncates }
ready_by ignore_null stamps event Upsert next s ready old before =
    record { upserted = some_below stamps.upserted event.sequence s ready.upserted before; deleted = old.deleted; truncated = old.truncated; truncates = old.truncates }

AllReady : Stamps → List Event → Type 0
AllReady stamps [] = Unit {0}
AllReady stamps (event ∷ later) = IsReady stamps event.kind event.sequence × AllReady stamps later

all_ready : (ignore_null : Bool) (stamps : Stamps) (event : Event) (later : List Event) → IsReady stamps event.kind event.sequence → AllReady stamps later → AllBehind event later
    → AllReady (stamped ignore_null stamps event) later
unfolding AllReady
all_ready ignore_null stamps event [] ready more behind = tt
all_ready ignore_null stamps event (next ∷ later) ready more behind =
    (ready_by ignore_null stamps event event.kind next.kind next.sequence ready more.0 behind.0, all_ready ignore_null stamps event later ready more.1 behind.1)

told : (ignore_null : Bool) (stamps : Stamps) (before : Option Row) (events : List Event) → row_told stamps ≡ before → AllWithin stamps.upserted stamps.cells → AllReady stamps events → AreInTurn events
    → row_told (fold (stamped ignore_null) stamps events) ≡ fold (after_event ignore_null) before events
unfolding AllReady
told ignore_null stamps before [] is within ready turn = is
told ignore_null stamps before (event ∷ later) is within ready turn =
    told ignore_null (stamped ignore_null stamps event) (after_event ignore_null before event) later
    (told_by ignore_null stamps event event.kind refl within ready.0 ∙ ap (λ row. after_event ignore_null row event) is)
    (within_by ignore_null stamps event event.kind within ready.0) (all_ready ignore_null stamps event later ready.0 ready.1 turn.0) turn.1

ready_first : (events : List Event) → AllReady no_event events
unfolding AllReady IsBelow IsUpTo
ready_first [] = tt
ready_first (event ∷ later) = (record { upserted = tt; deleted = tt; truncated = tt; truncates = λ e. tt }, ready_first later)

pub read : (ignore_null : Bool) (events : List Event) → AreInTurn events → row_told (fold (stamped ignore_null) no_event events) ≡ fold (after_event ignore_null) None events
unfolding AllWithin
read ignore_null events turn = told ignore_null no_event None events refl tt (ready_first events) turn
