-- The settings stay fit, line by line.
use Rattle.std.proofs.Common.{◌≡◌, ◌≤◌, ◌⊎◌, ◌||◌, if◌then◌else◌, ℕ, Bool, true, false, MatchBool, MatchOption, List, [], ◌∷◌, length, Option, None, Some, All, refl, ap, ◌∙◌, inl, inr, arith}
use Rattle.std.proofs.lemmas.List.{length-map}
use Rattle.std.proofs.lemmas.List.Elements.{All-nil}
use Rattle.gft_text.specs.declared.host_port.HostPort.{HostPort}
use Rattle.gft_command.specs.declared.command.Command.{Command}
use Rattle.gft_command.specs.declared.command.Command.TheVariants as commands
use Rattle.gft_opts.specs.declared.TheConstants.{MAX_TARGETS}
use Rattle.gft_outside.specs.Words.{IsNewLane, LaneState}
use Rattle.gft_reply_kind.specs.declared.ReplyKind.{ReplyKind}
use Rattle.gft_session.specs.Brought.{Brought}
use Rattle.gft_session.specs.Fit.{IsFit}
use Rattle.gft_session.specs.Jobs.{Job, retrieve_refusal, store_refusal}
use Rattle.gft_session.specs.Receiving.{AnswersRetrieve, AnswersStore}
use Rattle.gft_session.specs.Saying.{AnswersListen, Says, SaysAndReturns}
use Rattle.gft_session.specs.Settings.{Around, State, World, held, is_in, start_state}
use Rattle.gft_session.specs.Table.{AnswersLine, Row, dropped_by, is_free, is_transfer}

pub fit_as : {L : Type 0} (lane : L → LaneState) (old new : State L) → held new ≡ held old → IsFit lane old → IsFit lane new
fit_as lane old new same fit = record { unused = rw same fit.unused; few = rw same fit.few }

pub fit_none : {L : Type 0} (lane : L → LaneState) (new : State L) → held new ≡ [] → IsFit lane new
fit_none lane new none = record { unused = rw none (All-nil (λ l. IsNewLane (lane l))); few = rw none (omega arith) }

listen_fit : {L X : Type 0} (lane : L → LaneState) (stripes : ℕ) (IsNamed : List HostPort → ReplyKind → Type 0) (old : World L X) (brought : Brought) (new : World L X) →
    stripes ≤ MAX_TARGETS → AnswersListen lane stripes IsNamed old brought new → IsFit lane old.state → IsFit lane new.state
listen_fit lane stripes IsNamed old brought new few (inl refused) fit = fit_as lane old.state new.state (ap held refused.same.state) fit
listen_fit lane stripes IsNamed old brought new few (inr row) fit =
    let now = ap held row.listens.state in
    record { unused = rw now row.listens.unused; few = rw now (omega (arith, few, row.listens.count, length-map row.listens.listening (λ one. one.lane))) }

by_option : {A P : Type 0} {Q : A → Type 0} {R : Type 0} (found : Option A) → (P → R) → ((a : A) → Q a → R) → MatchOption found P Q → R
by_option None none some row = none row
by_option (Some a) none some row = some a row

store_fit : {L D X : Type 0} (around : Around L D) (job : Job) (old : World L X) (brought : Brought) (new : World L X) → AnswersStore around job old brought new → IsFit around.lane old.state → IsFit around.lane new.state
store_fit around job old brought new (inl memory) fit = fit_as around.lane old.state new.state (ap held memory.state) fit
store_fit around job old brought new (inr row) fit =
    by_option (store_refusal old.state job) (λ told. elim told [
      | inl refuses ↦ fit_as around.lane old.state new.state (ap held refuses.state) fit
      | inr file ↦ fit_none around.lane new.state (ap held file.state)
    ])
    (λ why says. fit_as around.lane old.state new.state (ap held says.state) fit) row

retrieve_fit : {L X : Type 0} (lane : L → LaneState) (path : List ℕ) (is_part : Bool) (old : World L X) (brought : Brought) (new : World L X) → AnswersRetrieve path is_part old brought new → IsFit lane old.state → IsFit lane new.state
retrieve_fit lane path is_part old brought new (inl memory) fit = fit_as lane old.state new.state (ap held memory.state) fit
retrieve_fit lane path is_part old brought new (inr row) fit =
    by_option (retrieve_refusal old.state path is_part) (λ says. fit_as lane old.state new.state (ap held says.state) fit) (λ why says. fit_as lane old.state new.state (ap held says.state) fit) row

row_fit : {L D X : Type 0} (around : Around L D) (command : Command) (old : World L X) (brought : Brought) (new : World L X) →
    around.stripes ≤ MAX_TARGETS → Row around command old brought new → IsFit around.lane old.state → IsFit around.lane new.state
row_fit around (commands.User _) old brought new few row fit = fit_as around.lane old.state new.state (ap held row.state) fit
row_fit around (commands.Pass _) old brought new few row fit = fit_as around.lane old.state new.state (ap held row.state) fit
row_fit around commands.Quit old brought new few row fit = fit_as around.lane old.state new.state (ap held row.state) fit
row_fit around commands.Noop old brought new few row fit = fit_as around.lane old.state new.state (ap held row.state) fit
row_fit around commands.Feat old brought new few row fit = fit_as around.lane old.state new.state (ap held row.state) fit
row_fit around (commands.SetType letter) old brought new few row fit = fit_as around.lane old.state new.state (ap held row.state) fit
row_fit around (commands.SetMode letter) old brought new few row fit = fit_as around.lane old.state new.state (ap held row.state) fit
row_fit around (commands.SetStru letter) old brought new few row fit = fit_as around.lane old.state new.state (ap held row.state) fit
row_fit around (commands.Dcau letter) old brought new few row fit = fit_as around.lane old.state new.state (ap held row.state) fit
row_fit around (commands.Sbuf _) old brought new few row fit = fit_as around.lane old.state new.state (ap held row.state) fit
row_fit around (commands.Allo _) old brought new few row fit = fit_as around.lane old.state new.state (ap held row.state) fit
row_fit around (commands.Opts options) old brought new few row fit = fit_as around.lane old.state new.state (ap held row.state) fit
row_fit around commands.Pwd old brought new few row fit = fit_as around.lane old.state new.state (ap held row.state) fit
row_fit around (commands.Cwd path) old brought new few row fit = fit_as around.lane old.state new.state (ap held row.state) fit
row_fit around commands.Pasv old brought new few row fit = listen_fit around.lane 1 _ old brought new (omega arith) row fit
row_fit around commands.Spas old brought new few row fit = listen_fit around.lane around.stripes _ old brought new few row fit
row_fit around (commands.Port at) old brought new few row fit = fit_none around.lane new.state (ap held row.state)
row_fit around (commands.Spor places) old brought new few row fit = fit_none around.lane new.state (ap held row.state)
row_fit around (commands.Rest list) old brought new few row fit = fit_as around.lane old.state new.state (ap held row.state) fit
row_fit around (commands.Stor path) old brought new few row fit = store_fit around (record { path = path; part = None }) old brought new row fit
row_fit around (commands.Esto esto) old brought new few row fit = store_fit around (record { path = esto.path; part = Some esto.offset }) old brought new row fit
row_fit around (commands.Retr path) old brought new few row fit = retrieve_fit around.lane path false old brought new row fit
row_fit around (commands.Eret eret) old brought new few row fit = retrieve_fit around.lane eret.path true old brought new row fit
row_fit around (commands.Size path) old brought new few row fit = fit_as around.lane old.state new.state (ap (λ w. held w.state) row.1) fit
row_fit around (commands.Dele path) old brought new few row fit = fit_as around.lane old.state new.state (ap (λ w. held w.state) row.1) fit
row_fit around commands.Abor old brought new few row fit = fit_as around.lane old.state new.state (ap held row.state) fit

dropped_same : {L : Type 0} (command : Command) (state : State L) → held (dropped_by command state) ≡ held state
dropped_same command state = by_case (is_transfer command)
  where
    by_case : (test : Bool) → held (if test then record state { rest = [] } else state) ≡ held state
    by_case true = refl
    by_case false = refl

by_test : (b : Bool) (P Q R : Type 0) → (P → R) → (Q → R) → MatchBool b P Q → R
by_test true P Q R p q row = p row
by_test false P Q R p q row = q row

-- a line leaves the settings fit
pub line_fit : {L D X : Type 0} (around : Around L D) (line : List ℕ) (old : World L X) (brought : Brought) (new : World L X) →
    around.stripes ≤ MAX_TARGETS → AnswersLine around line old brought new → IsFit around.lane old.state → IsFit around.lane new.state
line_fit around line old brought new few (inl reads) fit =
    by_test (is_free reads.command || is_in old.state.login) _ _ _
    (λ row. row_fit around reads.command old brought new few row fit)
    (λ first. fit_as around.lane old.state new.state (ap held first.state ∙ dropped_same reads.command old.state) fit) reads.answers
line_fit around line old brought new few (inr refuses) fit = fit_as around.lane old.state new.state (ap held refuses.says.state) fit
