-- The print of the statements of a text can stand in a text.
use Rattle.std.proofs.Common.{◌≡◌, ℕ, true, List, [], ◌∷◌, ◌++◌, Option, refl, subst, ◌⊎◌, inl, inr, ⊎_elim}
use Rattle.std.specs.Prelude.{codes}
use Rattle.std.specs.List.{list_all}
use Rattle.sql_tree.specs.declared.expr.SqlExpr.{SqlExpr}
use Rattle.sql_tree.specs.declared.statement.Statement.{Statement}
use Rattle.sql_tree.specs.declared.statement.Statement.TheVariants as statement
use Rattle.sql_tree.specs.declared.statement.SqlItem.{SqlItem}
use Rattle.sql_tree.specs.declared.statement.Select.{Select}
use Rattle.sql_tree.specs.declared.statement.CdcTree.{CdcTree}
use Rattle.sql_tree.specs.declared.lexeme.LexemeKind.TheVariants as k
use Rattle.sql_tree.specs.declared.lexeme.Lexeme.{Lexeme}
use Rattle.sql_tree.specs.Print as print
use Rattle.sql_tree.specs.Print.{Print, token, word, separated, if_some, expr_print}
use Rattle.sql_expr.specs.Grammar.{IsExpr}
use Rattle.sql_phrases.specs.Tokens.{the, the_word}
use Rattle.sql_lexemes.specs.Spellable.{is_spellable, are_spellable}
use Rattle.sql_statements.specs.Languages.{one, ◌>>=◌ as ◌⨾◌}
use Rattle.sql_statements.specs.Languages as language
use Rattle.sql_statements.specs.Grammar as grammar
use Rattle.sql_statements.specs.Pipelines.{IsPipeline}
use Rattle.pipeline_sql.proofs.Safe.{Safe, Open, safe_is_open, safe_nil, safe_append, open_append, token_safe, token_open, safe_parens, word_safe, name_safe, IsNameText, AllOpen, separated_open, Spells, halves}
use Rattle.pipeline_sql.proofs.SafeExprs.{expr_open, type_safe}
use Rattle.pipeline_sql.proofs.SafeParts.{Saves, Opens, name_text, list_open, inner, names_safe, origin_safe, sequence_safe, except_safe, alias_safe, action_safe, ignoring_safe, maybe_safe, columns_safe, scd_safe, track_safe}

exprs_open : Opens IsExpr expr_print
exprs_open w x s h = expr_open h s

-- ---- items and queries

expectation_safe : Saves (grammar.expectation IsExpr) print.item_print
expectation_safe w x s h =
    let a = halves h.0 h.1 h.3 s in
    let n = h.5 in
    let b = halves n.0 n.1 n.3 a.1 in
    let c = halves n.5.0 n.5.1 n.5.3 b.1 in
    let test = n.5.5 in
    let d = halves test.0 test.1 test.3 c.1 in
    let i = inner IsExpr test.0 test.2 d.0 test.4 in
    subst (λ z. Safe (print.item_print z)) test.5.5.1
    (safe_append
    (token_safe k.Constraint refl (name_safe n.2 (name_text n.0 n.2 b.0 n.4) (word_safe (codes "EXPECT") refl (safe_parens (expr_open i.2 i.1)))))
    (action_safe test.5.2))

item_safe : Saves (grammar.item_of IsExpr) print.item_print
item_safe w x s (inl h) = expectation_safe w x s h
item_safe w x s (inr h) =
    let a = halves h.0 h.1 h.3 s in
    subst (λ z. Safe (print.item_print z)) h.5.5.5.1 (name_safe h.2 (name_text h.0 h.2 a.0 h.4) (type_safe h.5.2 safe_nil))

items_print_safe : (xs : List SqlItem) → AllOpen print.item_print xs → Safe (print.items_print xs)
items_print_safe [] h = safe_nil
items_print_safe (x ∷ xs) h = safe_parens (separated_open print.item_print (x ∷ xs) h)

items_safe : Saves (grammar.items IsExpr) print.items_print
items_safe w xs s (inl h) =
    let i = inner (language.separated k.Comma (grammar.item_of IsExpr)) w xs s h in
    items_print_safe xs (list_open (grammar.item_of IsExpr) print.item_print (λ w x s h. safe_is_open (item_safe w x s h)) i.0 xs i.1 i.2)
items_safe w xs s (inr h) = subst (λ z. Safe (print.items_print z)) h.1 safe_nil

out_open : Opens (grammar.out_of IsExpr) print.out_print
out_open w x s (inl h) =
    let a = halves h.0 h.1 h.3 s in
    let b = halves h.5.0 h.5.1 h.5.3 a.1 in
    subst (λ z. Open (print.out_print z)) h.5.5.1 (safe_is_open (token_safe k.Star refl (except_safe h.5.0 h.5.2 b.0 h.5.4)))
out_open w x s (inr h) =
    let a = halves h.0 h.1 h.3 s in
    let b = halves h.5.0 h.5.1 h.5.3 a.1 in
    subst (λ z. Open (print.out_print z)) h.5.5.1 (open_append (expr_open h.4 a.0) (alias_safe h.5.0 h.5.2 b.0 h.5.4))

groups_print_safe : (xs : List SqlExpr) → AllOpen expr_print xs → Safe (print.group_print xs)
groups_print_safe [] h = safe_nil
groups_print_safe (x ∷ xs) h = token_safe k.Group refl (token_open k.By refl refl (separated_open expr_print (x ∷ xs) h))

groups_safe : Saves (grammar.groups IsExpr) print.group_print
groups_safe w xs s (inl h) =
    let a = halves h.0 h.1 h.3 s in
    let b = halves h.5.0 h.5.1 h.5.3 a.1 in
    groups_print_safe xs (list_open IsExpr expr_print exprs_open h.5.1 xs b.1 h.5.5)
groups_safe w xs s (inr h) = subst (λ z. Safe (print.group_print z)) h.1 safe_nil

abbrev filter_print : SqlExpr → Print
filter_print x = token k.Where ∷ expr_print x

filter_safe : Saves (grammar.maybe (one (the k.Where) ⨾ (λ _. IsExpr))) (if_some filter_print)
filter_safe = maybe_safe (one (the k.Where) ⨾ (λ _. IsExpr)) filter_print (λ w x s h. token_open k.Where refl refl (expr_open h.5 (halves h.0 h.1 h.3 s).1))

select_safe : Saves (grammar.select IsExpr) print.select_print
select_safe w x s h =
    let a = halves h.0 h.1 h.3 s in
    let outs = h.5 in
    let b = halves outs.0 outs.1 outs.3 a.1 in
    let c = halves outs.5.0 outs.5.1 outs.5.3 b.1 in
    let from = outs.5.5 in
    let d = halves from.0 from.1 from.3 c.1 in
    let filter = from.5 in
    let e = halves filter.0 filter.1 filter.3 d.1 in
    let groups = filter.5 in
    let f = halves groups.0 groups.1 groups.3 e.1 in
    subst (λ z. Safe (print.select_print z)) groups.5.1
    (safe_append
    (safe_append
    (safe_append
    (token_open k.Select refl refl (separated_open print.out_print outs.2 (list_open (grammar.out_of IsExpr) print.out_print out_open outs.0 outs.2 b.0 outs.4)))
    (token_safe k.From refl (origin_safe from.0 from.2 d.0 from.4)))
    (filter_safe filter.0 filter.2 e.0 filter.4))
    (groups_safe groups.0 groups.2 f.0 groups.4))

-- ---- change feeds

abbrev applied_print : List ℕ → SqlExpr → Print
applied_print what x = word (codes "APPLY") ∷ token k.As ∷ word what ∷ token k.When ∷ expr_print x

applied_when : (what : List ℕ) (w : List Lexeme) (x : SqlExpr) → Spells w → (one (the_word (codes "APPLY")) ⨾ (λ _. one (the k.As) ⨾ (λ _. one (the_word what) ⨾ (λ _. one (the k.When) ⨾ (λ _. IsExpr))))) w x → Open (expr_print x)
applied_when what w x s h =
    let a = halves h.0 h.1 h.3 s in
    let b = halves h.5.0 h.5.1 h.5.3 a.1 in
    let c = halves h.5.5.0 h.5.5.1 h.5.5.3 b.1 in
    let d = halves h.5.5.5.0 h.5.5.5.1 h.5.5.5.3 c.1 in
    expr_open h.5.5.5.5 d.1

delete_safe : Saves (grammar.applied IsExpr (codes "DELETE")) (if_some (applied_print (codes "DELETE")))
delete_safe = maybe_safe _ (applied_print (codes "DELETE"))
    (λ w x s h. word_safe (codes "APPLY") refl (token_safe k.As refl (word_safe (codes "DELETE") refl (token_open k.When refl refl (applied_when (codes "DELETE") w x s h)))))

truncate_safe : Saves (grammar.applied IsExpr (codes "TRUNCATE")) (if_some (applied_print (codes "TRUNCATE")))
truncate_safe = maybe_safe _ (applied_print (codes "TRUNCATE"))
    (λ w x s h. word_safe (codes "APPLY") refl (token_safe k.As refl (word_safe (codes "TRUNCATE") refl (token_open k.When refl refl (applied_when (codes "TRUNCATE") w x s h)))))

-- the conditions of a feed, each of them
conditions_safe : (w : List Lexeme) (p : Option SqlExpr × Option SqlExpr) → Spells w → grammar.conditions IsExpr w p → Safe (if_some (applied_print (codes "DELETE")) p.0) × Safe (if_some (applied_print (codes "TRUNCATE")) p.1)
conditions_safe w p s h =
    let a = halves h.0 h.1 h.3 s in
    let b = halves h.5.0 h.5.1 h.5.3 a.1 in
    subst (λ z. Safe (if_some (applied_print (codes "DELETE")) z.0) × Safe (if_some (applied_print (codes "TRUNCATE")) z.1)) h.5.5.1
    (delete_safe h.0 h.2 a.0 h.4, truncate_safe h.5.0 h.5.2 b.0 h.5.4)

cdc_safe : Saves (grammar.cdc IsExpr) print.cdc_print
cdc_safe w x s h =
    let a = halves h.0 h.1 h.3 s in
    let n = h.5 in
    let b = halves n.0 n.1 n.3 a.1 in
    let c = halves n.5.0 n.5.1 n.5.3 b.1 in
    let from = n.5.5 in
    let d = halves from.0 from.1 from.3 c.1 in
    let e = halves from.5.0 from.5.1 from.5.3 d.1 in
    let keys = from.5.5 in
    let f = halves keys.0 keys.1 keys.3 e.1 in
    let ignoring = keys.5 in
    let g = halves ignoring.0 ignoring.1 ignoring.3 f.1 in
    let when = ignoring.5 in
    let i = halves when.0 when.1 when.3 g.1 in
    let conditions = conditions_safe when.0 when.2 i.0 when.4 in
    let j = halves when.5.0 when.5.1 when.5.3 i.1 in
    let l = halves when.5.5.0 when.5.5.1 when.5.5.3 j.1 in
    let order = when.5.5.5 in
    let m = halves order.0 order.1 order.3 l.1 in
    let columns = order.5 in
    let o = halves columns.0 columns.1 columns.3 m.1 in
    let type = columns.5 in
    let p = halves type.0 type.1 type.3 o.1 in
    let history = type.5 in
    let q = halves history.0 history.1 history.3 p.1 in
    subst (λ z. Safe (print.cdc_print z)) history.5.1
    (safe_append
    (safe_append
    (safe_append
    (safe_append
    (safe_append
    (safe_append
    (safe_append
    (safe_append
    (word_safe (codes "INTO") refl (name_safe n.2 (name_text n.0 n.2 b.0 n.4) (token_safe k.From refl (origin_safe from.0 from.2 d.0 from.4))))
    (word_safe (codes "KEYS") refl (names_safe keys.0 keys.2 f.0 keys.4)))
    (ignoring_safe ignoring.2))
    conditions.0)
    conditions.1)
    (word_safe (codes "SEQUENCE") refl (token_safe k.By refl (sequence_safe order.0 order.2 m.0 order.4))))
    (columns_safe columns.0 columns.2 o.0 columns.4))
    (scd_safe type.0 type.2 p.0 type.4))
    (track_safe history.0 history.2 q.0 history.4))

-- ---- statements

create_safe : {ts : Print} → Safe ts → Safe (print.create ++ ts)
create_safe safe = token_safe k.Create refl (token_safe k.Or refl (word_safe (codes "REFRESH") refl safe))

flow_safe : {ts : Print} (n : List ℕ) → IsNameText n → Safe ts → Safe (print.flow_print n ++ ts)
flow_safe n h safe = token_safe k.Create refl (word_safe (codes "FLOW") refl (name_safe n h (token_safe k.As refl safe)))

abbrev query_print : Select → Print
query_print x = token k.As ∷ print.select_print x

query_safe : Saves (grammar.maybe (one (the k.As) ⨾ (λ _. grammar.select IsExpr))) (if_some query_print)
query_safe = maybe_safe (one (the k.As) ⨾ (λ _. grammar.select IsExpr)) query_print (λ w x s h. token_safe k.As refl (select_safe h.1 x (halves h.0 h.1 h.3 s).1 h.5))

table_safe : Saves (grammar.table IsExpr) print.statement_print
table_safe w x s h =
    let a = halves h.0 h.1 h.3 s in
    let b = halves h.5.0 h.5.1 h.5.3 a.1 in
    let n = h.5.5 in
    let c = halves n.0 n.1 n.3 b.1 in
    let items = n.5 in
    let d = halves items.0 items.1 items.3 c.1 in
    let e = halves items.5.0 items.5.1 items.5.3 d.1 in
    let query = items.5.5 in
    let f = halves query.0 query.1 query.3 e.1 in
    subst (λ z. Safe (print.statement_print z)) query.5.1
    (safe_append
    (create_safe (word_safe (codes "STREAMING") refl (word_safe (codes "TABLE") refl (name_safe n.2 (name_text n.0 n.2 c.0 n.4) (items_safe items.0 items.2 d.0 items.4)))))
    (query_safe query.0 query.2 f.0 query.4))

view_safe : Saves (grammar.view IsExpr) print.statement_print
view_safe w x s h =
    let a = halves h.0 h.1 h.3 s in
    let b = halves h.5.0 h.5.1 h.5.3 a.1 in
    let n = h.5.5 in
    let c = halves n.0 n.1 n.3 b.1 in
    let items = n.5 in
    let d = halves items.0 items.1 items.3 c.1 in
    let e = halves items.5.0 items.5.1 items.5.3 d.1 in
    let f = halves items.5.5.0 items.5.5.1 items.5.5.3 e.1 in
    let query = items.5.5.5 in
    let g = halves query.0 query.1 query.3 f.1 in
    subst (λ z. Safe (print.statement_print z)) query.5.1
    (safe_append
    (create_safe (word_safe (codes "MATERIALIZED") refl (word_safe (codes "VIEW") refl (name_safe n.2 (name_text n.0 n.2 c.0 n.4) (items_safe items.0 items.2 d.0 items.4)))))
    (token_safe k.As refl (select_safe query.0 query.2 g.0 query.4)))

insert_safe : (flow : List ℕ) → IsNameText flow → Saves (grammar.insert IsExpr flow) print.statement_print
insert_safe flow named w x s h =
    let a = halves h.0 h.1 h.3 s in
    let b = halves h.5.0 h.5.1 h.5.3 a.1 in
    let target = h.5.5 in
    let c = halves target.0 target.1 target.3 b.1 in
    let d = halves target.5.0 target.5.1 target.5.3 c.1 in
    let e = halves target.5.5.0 target.5.5.1 target.5.5.3 d.1 in
    let query = target.5.5.5 in
    let f = halves query.0 query.1 query.3 e.1 in
    subst (λ z. Safe (print.statement_print z)) query.5.1
    (flow_safe flow named
    (word_safe (codes "INSERT") refl
    (word_safe (codes "INTO") refl
    (name_safe target.2 (name_text target.0 target.2 c.0 target.4) (token_safe k.By refl (word_safe (codes "NAME") refl (select_safe query.0 query.2 f.0 query.4)))))))

feed_safe : (flow : List ℕ) (rest : CdcTree) → IsNameText flow → Safe (print.cdc_print rest) → Safe (print.statement_print (statement.Cdc flow rest))
feed_safe flow rest named safe = flow_safe flow named (word_safe (codes "AUTO") refl (word_safe (codes "CDC") refl safe))

target_text : (w : List Lexeme) (x : CdcTree) → Spells w → grammar.cdc IsExpr w x → IsNameText x.target
target_text w x s h =
    let a = halves h.0 h.1 h.3 s in
    let n = h.5 in
    let b = halves n.0 n.1 n.3 a.1 in
    let keys = n.5.5.5.5 in
    let order = keys.5.5.5.5.5 in
    let history = order.5.5.5 in
    subst (λ z. IsNameText z.target) history.5.1 (name_text n.0 n.2 b.0 n.4)

statement_safe : Saves (grammar.statement_of IsExpr) print.statement_print
statement_safe w x s (inl h) = table_safe h.1 x (halves h.0 h.1 h.3 s).1 h.5
statement_safe w x s (inr (inl h)) = view_safe h.1 x (halves h.0 h.1 h.3 s).1 h.5
statement_safe w x s (inr (inr (inl h))) =
    let a = halves h.0 h.1 h.3 s in
    let b = halves h.5.0 h.5.1 h.5.3 a.1 in
    let n = h.5.5 in
    let c = halves n.0 n.1 n.3 b.1 in
    let d = halves n.5.0 n.5.1 n.5.3 c.1 in
    let named = name_text n.0 n.2 c.0 n.4 in
    ⊎_elim (insert_safe n.2 named n.5.1 x d.1)
    (λ feed.
    let e = halves feed.0 feed.1 feed.3 d.1 in
    let rest = feed.5 in
    let f = halves rest.0 rest.1 rest.3 e.1 in
    subst (λ z. Safe (print.statement_print z)) rest.5.1 (feed_safe n.2 rest.2 named (cdc_safe rest.0 rest.2 f.0 rest.4))) n.5.5
statement_safe w x s (inr (inr (inr h))) =
    let a = halves h.0 h.1 h.3 s in
    let b = halves h.5.0 h.5.1 h.5.3 a.1 in
    let rest = h.5.5 in
    let c = halves rest.0 rest.1 rest.3 b.1 in
    subst (λ z. Safe (print.statement_print z)) rest.5.1 (feed_safe rest.2.target rest.2 (target_text rest.0 rest.2 c.0 rest.4) (cdc_safe rest.0 rest.2 c.0 rest.4))

-- ---- pipelines

abbrev AllSafe : List Statement → Type 0
AllSafe [] = Unit {0}
AllSafe (x ∷ xs) = Safe (print.statement_print x) × AllSafe xs

more_safe : (w : List Lexeme) (xs : List Statement) → Spells w → grammar.more_statements IsExpr w xs → AllSafe xs
more_safe w [] s h = tt
more_safe w (x ∷ xs) s h =
    let a = halves (h.0 ∷ []) (h.1 ++ h.2) h.3 s in
    let b = halves h.1 h.2 refl a.1 in
    (statement_safe h.1 x b.0 h.5, more_safe h.2 xs b.1 h.6)

print_safe : (p : List Statement) → AllSafe p → Safe (print.print p)
print_safe [] h = safe_nil
print_safe (x ∷ []) h = h.0
print_safe (x ∷ y ∷ more) h = safe_append h.0 (token_safe k.Semicolon refl (print_safe (y ∷ more) h.1))

pipeline_safe : (w : List Lexeme) (p : List Statement) → Spells w → IsPipeline w p → Safe (print.print p)
pipeline_safe w [] s h = safe_nil
pipeline_safe w (x ∷ xs) s h =
    let a = halves h.0 h.1 h.2 s in
    print_safe (x ∷ xs) (statement_safe h.0 x a.0 h.3, more_safe h.1 xs a.1 h.4)

-- the print of a pipeline of lexemes that a text can have is such lexemes
pub print_spellable : (w : List Lexeme) (p : List Statement) → list_all is_spellable w ≡ true → IsPipeline w p → are_spellable (print.print p) ≡ true
unfolding are_spellable
print_spellable w p s h = (pipeline_safe w p s h).always k.End k.End
