-- The first field or settings that break, or the task that they say.
use Rattle.std.proofs.Common.{eqb, List, [], ◌∷◌, ◌++◌, ap, ◌∙◌, rules}
use Rattle.cells.specs.Values.{value, kind_of}
use Rattle.headings.specs.declared.column.Column.{Column}
use Rattle.headings.specs.declared.column.Column.TheVariants.{Task, Time, Kind, Period, Slice, Phase, Inner, Inslice, Inphase, Inlet}
use Rattle.headings.specs.declared.table.Table.TheVariants.{Tasks}
use Rattle.sheets.specs.Checks.{settings_of}
use Rattle.sheet_lines.proofs.Columns.{begun, past, stopped, holds}
use Rattle.sheet_lines.proofs.Handed.{handed_on}
use Rattle.sheet_lines.proofs.entry.task_in.Goals as goal

-- the columns of the settings, and those behind each value

abbrev slice : List Column
slice = Period ∷ Slice ∷ Phase ∷ []

abbrev layer : List Column
layer = Inner ∷ Inslice ∷ Inphase ∷ []

abbrev behind_slice : List Column
behind_slice = layer ++ (Inlet ∷ [])

abbrev behind_kind : List Column
behind_kind = slice ++ behind_slice

pub returns-in_err-name : goal.returns-in_err-name
returns-in_err-name c =
    let none = begun [] Tasks c.args.line.number c.args.line.text.now c.in_ok-values.values.fields (search rules) c.in_ok-values.ensures.1 in
    let r = c.from_residual-in_err-name in
    handed_on r.result _ _ _ r.ensures.1 (stopped (Task ∷ []) (Time ∷ Kind ∷ behind_kind) none c.in_err-name.ensures)

pub returns-in_err-time : goal.returns-in_err-time
returns-in_err-time c =
    let none = begun [] Tasks c.args.line.number c.args.line.text.now c.in_ok-values.values.fields (search rules) c.in_ok-values.ensures.1 in
    let name = past (Task ∷ []) (Time ∷ Kind ∷ behind_kind) none c.in_ok-name.ensures in
    let r = c.from_residual-in_err-time in
    handed_on r.result _ _ _ r.ensures.1 (stopped (Time ∷ []) (Kind ∷ behind_kind) name c.in_err-time.ensures)

pub returns-in_err-kind : goal.returns-in_err-kind
returns-in_err-kind c =
    let none = begun [] Tasks c.args.line.number c.args.line.text.now c.in_ok-values.values.fields (search rules) c.in_ok-values.ensures.1 in
    let name = past (Task ∷ []) (Time ∷ Kind ∷ behind_kind) none c.in_ok-name.ensures in
    let time = past (Time ∷ []) (Kind ∷ behind_kind) name c.in_ok-time.ensures in
    let r = c.from_residual-in_err-kind in
    handed_on r.result _ _ _ r.ensures.1 (stopped (Kind ∷ []) behind_kind time c.in_err-kind.ensures)

pub returns-in_err-slice : goal.returns-in_err-slice
returns-in_err-slice c =
    let none = begun [] Tasks c.args.line.number c.args.line.text.now c.in_ok-values.values.fields (search rules) c.in_ok-values.ensures.1 in
    let name = past (Task ∷ []) (Time ∷ Kind ∷ behind_kind) none c.in_ok-name.ensures in
    let time = past (Time ∷ []) (Kind ∷ behind_kind) name c.in_ok-time.ensures in
    let kind = past (Kind ∷ []) behind_kind time c.in_ok-kind.ensures in
    let r = c.from_residual-in_err-slice in
    handed_on r.result _ _ _ r.ensures.1 (stopped slice behind_slice kind c.in_err-slice.ensures)

pub returns-in_err-layer : goal.returns-in_err-layer
returns-in_err-layer c =
    let none = begun [] Tasks c.args.line.number c.args.line.text.now c.in_ok-values.values.fields (search rules) c.in_ok-values.ensures.1 in
    let name = past (Task ∷ []) (Time ∷ Kind ∷ behind_kind) none c.in_ok-name.ensures in
    let time = past (Time ∷ []) (Kind ∷ behind_kind) name c.in_ok-time.ensures in
    let kind = past (Kind ∷ []) behind_kind time c.in_ok-kind.ensures in
    let settings = past slice behind_slice kind c.in_ok-slice.ensures in
    let r = c.from_residual-in_err-layer in
    handed_on r.result _ _ _ r.ensures.1 (stopped layer (Inlet ∷ []) settings c.in_err-layer.ensures)

pub returns-in_err-inlet : goal.returns-in_err-inlet
returns-in_err-inlet c =
    let none = begun [] Tasks c.args.line.number c.args.line.text.now c.in_ok-values.values.fields (search rules) c.in_ok-values.ensures.1 in
    let name = past (Task ∷ []) (Time ∷ Kind ∷ behind_kind) none c.in_ok-name.ensures in
    let time = past (Time ∷ []) (Kind ∷ behind_kind) name c.in_ok-time.ensures in
    let kind = past (Kind ∷ []) behind_kind time c.in_ok-kind.ensures in
    let settings = past slice behind_slice kind c.in_ok-slice.ensures in
    let over = past layer (Inlet ∷ []) settings c.in_ok-layer.ensures in
    let r = c.from_residual-in_err-inlet in
    handed_on r.result _ _ _ r.ensures.1 (stopped (Inlet ∷ []) [] over c.in_err-inlet.ensures)

pub returns : goal.returns
returns c =
    let none = begun [] Tasks c.args.line.number c.args.line.text.now c.in_ok-values.values.fields (search rules) c.in_ok-values.ensures.1 in
    let name = past (Task ∷ []) (Time ∷ Kind ∷ behind_kind) none c.in_ok-name.ensures in
    let time = past (Time ∷ []) (Kind ∷ behind_kind) name c.in_ok-time.ensures in
    let kind = past (Kind ∷ []) behind_kind time c.in_ok-kind.ensures in
    let settings = past slice behind_slice kind c.in_ok-slice.ensures in
    let over = past layer (Inlet ∷ []) settings c.in_ok-layer.ensures in
    let all = past (Inlet ∷ []) [] over c.in_ok-inlet.ensures in
    let a = c.in_ok-name.ensures.1.0 ∙ holds (λ x. x) 0 none in
    let b = c.in_ok-time.ensures.1.0 ∙ holds value 0 name in
    let d = c.in_ok-kind.ensures.1.0 ∙ holds kind_of 0 time in
    let e = c.in_ok-slice.ensures.1.0 ∙ (λ i. settings_of (holds (λ x. x) 0 kind i) (holds (λ x. x) 1 kind i) (holds (λ x. x) 2 kind i)) in
    let f = c.in_ok-layer.ensures.1.0 ∙ (λ i. settings_of (holds (λ x. x) 0 settings i) (holds (λ x. x) 1 settings i) (holds (λ x. x) 2 settings i)) in
    let g = ap (λ n. eqb n 1) (c.in_ok-inlet.ensures.1.0 ∙ holds value 0 over) in
    (all.goes_on, λ i. record { name = a i; time = b i; kind = d i; slice = e i; layer = f i; inlet = g i })
