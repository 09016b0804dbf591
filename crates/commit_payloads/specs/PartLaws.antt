-- The reading of definitions and batches is exact.
use Rattle.std.proofs.Common.{◌≡◌, ℕ, List, [], ◌∷◌, ◌++◌, Some, refl, sym, ap, subst, ◌∙◌, inl, inr}
use Rattle.std.specs.Prelude.{⊤}
use Rattle.segment_rows.specs.Exact.{IsBytes, IsExact}
use Rattle.segment_rows.specs.FieldLaws.{bind_some, some_is, number_exact, text_exact, list_exact, both_exact, made_exact, coded_exact, byte_taken, byte_again, tag_case, part_taken, IsBytes-behind}
use Rattle.segment_rows.specs.PartLaws.{kind_exact, column_exact, cursor_exact, change_exact, tally_exact, event_exact}
use Rattle.segment_rows.specs.ValueLaws.{rows_exact}
use Rattle.segment_rows.specs.Reading.{byte_at, coded_at, tagged_at}
use Rattle.commit_payloads.specs.declared.definition.StoredBody.{StoredBody}
use Rattle.commit_payloads.specs.declared.definition.StoredBody.TheVariants.{Append, Scd1, Scd2, View}
use Rattle.commit_payloads.specs.declared.definition.StoredAction.{StoredAction}
use Rattle.commit_payloads.specs.declared.definition.StoredAction.TheVariants.{Warn, DropRow, FailUpdate}
use Rattle.commit_payloads.specs.declared.definition.StoredOrigin.{StoredOrigin}
use Rattle.commit_payloads.specs.declared.definition.StoredOrigin.TheVariants.{Folder, Table}
use Rattle.commit_payloads.specs.declared.definition.StoredExpectation.{StoredExpectation}
use Rattle.commit_payloads.specs.declared.definition.StoredFlow.{StoredFlow}
use Rattle.commit_payloads.specs.declared.definition.Definition.{Definition}
use Rattle.commit_payloads.specs.declared.state.DatasetState.{DatasetState}
use Rattle.commit_payloads.specs.declared.take.Refresh.{Refresh}
use Rattle.commit_payloads.specs.declared.take.Take.{Take}
use Rattle.commit_payloads.specs.Ranges.{IsExpectation, IsOrigin, IsFlow, IsDefinition, IsRefresh, IsTake, IsDatasetState}
use Rattle.commit_payloads.specs.Reading.{body_of, action_of, expectation_at, origin_by, origin_at, flow_at, definition_at, refresh_at, take_at, dataset_state_at}
use Rattle.commit_payloads.specs.Spelling.{body_byte, spelled_body, action_byte, spelled_action, spelled_expectation, spelled_origin, spelled_flow, spelled_definition, spelled_refresh, spelled_take, spelled_dataset_state}

body_forth : (body : StoredBody) → body_of (body_byte body) ≡ Some body
body_forth Append = refl
body_forth Scd1 = refl
body_forth Scd2 = refl
body_forth View = refl

body_back : (byte : ℕ) (body : StoredBody) → body_of byte ≡ Some body → byte ≡ body_byte body
body_back byte body e =
    elim (tag_case byte 0 _ _ body e) [
      | inl h ↦ h.0 ∙ ap body_byte (some_is _ _ h.1)
      | inr e1 ↦
          elim (tag_case byte 1 _ _ body e1) [
            | inl h ↦ h.0 ∙ ap body_byte (some_is _ _ h.1)
            | inr e2 ↦
                elim (tag_case byte 2 _ _ body e2) [
                  | inl h ↦ h.0 ∙ ap body_byte (some_is _ _ h.1)
                  | inr e3 ↦
                      elim (tag_case byte 3 _ _ body e3) [ inl h ↦ h.0 ∙ ap body_byte (some_is _ _ h.1) | inr e4 ↦ absurd cc ]
                ]
          ]
    ]

pub body_exact : IsExact spelled_body (λ body. ⊤) (coded_at body_of)
body_exact = coded_exact body_byte body_of body_forth body_back

action_forth : (action : StoredAction) → action_of (action_byte action) ≡ Some action
action_forth Warn = refl
action_forth DropRow = refl
action_forth FailUpdate = refl

action_back : (byte : ℕ) (action : StoredAction) → action_of byte ≡ Some action → byte ≡ action_byte action
action_back byte action e =
    elim (tag_case byte 0 _ _ action e) [
      | inl h ↦ h.0 ∙ ap action_byte (some_is _ _ h.1)
      | inr e1 ↦
          elim (tag_case byte 1 _ _ action e1) [
            | inl h ↦ h.0 ∙ ap action_byte (some_is _ _ h.1)
            | inr e2 ↦
                elim (tag_case byte 2 _ _ action e2) [ inl h ↦ h.0 ∙ ap action_byte (some_is _ _ h.1) | inr e3 ↦ absurd cc ]
          ]
    ]

pub action_exact : IsExact spelled_action (λ action. ⊤) (coded_at action_of)
action_exact = coded_exact action_byte action_of action_forth action_back

pub expectation_exact : IsExact spelled_expectation IsExpectation expectation_at
expectation_exact = made_exact (λ parts. record { name = parts.0; action = parts.1 }) (λ (expectation : StoredExpectation). (expectation.name, expectation.action)) (λ parts. refl) (λ expectation. refl) (both_exact text_exact action_exact)

-- ---- origins

abbrev Parts : List ℕ → StoredOrigin × List ℕ → Type 0
Parts bytes found = IsOrigin found.0 × (bytes ≡ spelled_origin found.0 ++ found.1)

origin_parts : (tag : ℕ) (rest : List ℕ) (found : StoredOrigin × List ℕ) → IsBytes rest → origin_by tag rest ≡ Some found → Parts (tag ∷ rest) found
origin_parts tag rest found are e =
    elim (tag_case tag 0 _ _ found e) [
      | inl h ↦
          let p = part_taken text_exact Folder rest found are h.1 in
          subst (λ (x : StoredOrigin). Parts (tag ∷ rest) (x, found.1)) p.2 (p.1, ap (λ (t : ℕ). t ∷ rest) h.0 ∙ ap (λ (s : List ℕ). 0 ∷ s) p.3)
      | inr e1 ↦ elim (tag_case tag 1 _ _ found e1) [
        | inl h ↦
            let p = part_taken text_exact Table rest found are h.1 in
            subst (λ (x : StoredOrigin). Parts (tag ∷ rest) (x, found.1)) p.2 (p.1, ap (λ (t : ℕ). t ∷ rest) h.0 ∙ ap (λ (s : List ℕ). 1 ∷ s) p.3)
        | inr e2 ↦ absurd cc
      ]
    ]

origin_taken : (bytes : List ℕ) (found : StoredOrigin × List ℕ) → IsBytes bytes → origin_at bytes ≡ Some found → Parts bytes found
unfolding tagged_at
origin_taken bytes found are e =
    let b = bind_some (byte_at bytes) (λ tag. origin_by tag.0 tag.1) found e in
    let front = byte_taken bytes b.0 b.1 in
    subst (λ (x : List ℕ). Parts x found) (sym front) (origin_parts b.0.0 b.0.1 found (IsBytes-behind (b.0.0 ∷ []) b.0.1 bytes are front) b.2)

origin_again : (origin : StoredOrigin) (rest : List ℕ) → IsOrigin origin → origin_at (spelled_origin origin ++ rest) ≡ Some (origin, rest)
unfolding tagged_at
origin_again (Folder folder) rest is = rw (byte_again, text_exact.again folder rest is) refl
origin_again (Table name) rest is = rw (byte_again, text_exact.again name rest is) refl

pub origin_exact : IsExact spelled_origin IsOrigin origin_at
origin_exact = record { taken = origin_taken; again = origin_again }

-- ---- flows, definitions, batches

pub flow_exact : IsExact spelled_flow IsFlow flow_at
flow_exact = made_exact (λ parts. record { name = parts.0; origin = parts.1 }) (λ (flow : StoredFlow). (flow.name, flow.origin)) (λ parts. refl) (λ flow. refl) (both_exact text_exact origin_exact)

pub definition_exact : IsExact spelled_definition IsDefinition definition_at
definition_exact =
    made_exact
    (λ parts. record {
      name = parts.0.0.0.0.0.0.0;
      text = parts.0.0.0.0.0.0.1;
      body = parts.0.0.0.0.0.1;
      columns = parts.0.0.0.0.1;
      expectations = parts.0.0.0.1;
      flows = parts.0.0.1;
      keys = parts.0.1;
      sequence = parts.1;
    })
    (λ (d : Definition). (((((((d.name, d.text), d.body), d.columns), d.expectations), d.flows), d.keys), d.sequence))
    (λ parts. refl)
    (λ d. refl)
    (both_exact (both_exact (both_exact (both_exact (both_exact (both_exact (both_exact text_exact text_exact) body_exact) (list_exact column_exact)) (list_exact expectation_exact)) (list_exact flow_exact)) (list_exact number_exact)) (list_exact kind_exact))

pub take_exact : IsExact spelled_take IsTake take_at
take_exact =
    made_exact
    (λ parts. record {
      table = parts.0.0.0.0.0;
      flow = parts.0.0.0.0.1;
      cursor = parts.0.0.0.1;
      change = parts.0.0.1;
      counts = parts.0.1;
      events = parts.1;
    })
    (λ (t : Take). (((((t.table, t.flow), t.cursor), t.change), t.counts), t.events))
    (λ parts. refl)
    (λ t. refl)
    (both_exact (both_exact (both_exact (both_exact (both_exact text_exact text_exact) cursor_exact) change_exact) (list_exact tally_exact)) (list_exact event_exact))

pub refresh_exact : IsExact spelled_refresh IsRefresh refresh_at
refresh_exact =
    made_exact (λ parts. record { view = parts.0.0.0; cursor = parts.0.0.1; change = parts.0.1; counts = parts.1 }) (λ (r : Refresh). (((r.view, r.cursor), r.change), r.counts)) (λ parts. refl) (λ r. refl)
    (both_exact (both_exact (both_exact text_exact cursor_exact) change_exact) (list_exact tally_exact))

pub dataset_state_exact : IsExact spelled_dataset_state IsDatasetState dataset_state_at
dataset_state_exact =
    made_exact
    (λ parts. record {
      base = parts.0.0.0.0.0;
      rows = parts.0.0.0.0.1;
      changes = parts.0.0.0.1;
      cursors = parts.0.0.1;
      counts = parts.0.1;
      events = parts.1;
    })
    (λ (s : DatasetState). (((((s.base, s.rows), s.changes), s.cursors), s.counts), s.events))
    (λ parts. refl)
    (λ s. refl)
    (both_exact (both_exact (both_exact (both_exact (both_exact number_exact rows_exact) (list_exact change_exact)) (list_exact cursor_exact)) (list_exact tally_exact)) (list_exact event_exact))
