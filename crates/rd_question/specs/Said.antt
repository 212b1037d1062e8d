-- What a line says to the engine.
use denote.Ref.{Bor}
use Rattle.std.specs.Prelude.{◌≡◌, ◌≤◌, ◌⊎◌, ◌==◌, ◌++◌, ◌∷◌, ℕ, ⊤, Bool, true, false, List, []}
use Rattle.std.specs.Prelude.{Option, Some, None, IfSome, codes}
use Rattle.std.specs.List.{after_first, before_first}
use Rattle.std.specs.Str.{trim}
use Rattle.rd_goal.specs.Written.{IsNoneOf}
use Rattle.rd_question.specs.EngineView.{EngineView, LeadOn, MayCome}
use Rattle.rd_question.specs.Handlers.{IsSaidBy}
use Rattle.rd_question.specs.IsrWords.{IsIsrOf, SaysTwice}
use Rattle.rd_question.specs.Numbers.{number_within}
use Rattle.rd_question.specs.Paces.{IsNoPace, IsWritten}
use Rattle.rd_question.specs.declared.engine_line.TheConstants.{MAX_SURPRISES}
use Rattle.rd_question.specs.declared.engine_line.EngineLine.{EngineLine}
use Rattle.rd_question.specs.declared.engine_line.EngineLine.TheVariants as line
use Rattle.rd_question.specs.declared.engine_line.EngineSetting.{EngineSetting}
use Rattle.rd_question.specs.declared.engine_line.EngineSetting.TheVariants as setting
use Rattle.rd_question.specs.declared.fault.ReachFault.{ReachFault}
use Rattle.rd_question.specs.declared.fault.ReachFault.TheVariants as fault
use Rattle.rd_question.specs.declared.handler.Handler.{Handler}
use Rattle.rd_question.specs.declared.handler.NoHandler.{NoHandler}
use Rattle.rd_question.specs.declared.handler.Said.{Said}
use Rattle.rd_question.specs.declared.options.TheConstants.{MAX_MEMORY, MAX_MOVES, MAX_STATES}
use Rattle.rd_question.specs.declared.pace.NoPace.{NoPace}
use Rattle.rd_question.specs.declared.pace.Pace.{Pace}
use Rattle.rd_question.specs.declared.pace.TheConstants.{NO_PACE}
use Rattle.rd_question.specs.declared.query.Query.{Query}
use Rattle.rd_question.specs.declared.query.Query.TheVariants as query

abbrev pub is_blank : ℕ → Bool
is_blank byte = byte == 32

-- what stands before the first space
abbrev pub keyword_of : List ℕ → List ℕ
keyword_of text = before_first is_blank text

-- what stands behind it, without space at either end
abbrev pub operand_of : List ℕ → List ℕ
operand_of text = trim (after_first is_blank text)

-- The word writes the pace, or there is none and the word says so.
abbrev pub IsPaceSaid : List ℕ → Pace → Type 0
IsPaceSaid word pace = ((word ≡ codes "none") × (pace ≡ NO_PACE)) ⊎ IsWritten word pace

-- The word writes how many there are at the most, or says that there is no limit.
abbrev pub IsLimitSaid : ℕ → List ℕ → Option ℕ → Type 0
IsLimitSaid most word None = word ≡ codes "none"
IsLimitSaid most word (Some limit) = number_within 0 most word ≡ Some limit

-- the word by which it is asked
abbrev pub query_word : Query → List ℕ
query_word query.Reach = codes "reach"
query_word query.Lost = codes "lost"
query_word query.Doomed = codes "doomed"

-- The word says whether it is on.
abbrev pub IsSwitchSaid : List ℕ → Bool → Type 0
IsSwitchSaid word true = word ≡ codes "on"
IsSwitchSaid word false = word ≡ codes "off"

-- A line with this keyword, and this behind it, says the setting.
abbrev pub IsSetting : List ℕ → List ℕ → EngineSetting → Type 0
IsSetting keyword operand (setting.Pace pace) = (keyword ≡ codes "pace") × IsPaceSaid operand pace
IsSetting keyword operand (setting.Surprises most) =
    (keyword ≡ codes "surprises") × IsLimitSaid MAX_SURPRISES operand most
IsSetting keyword operand (setting.Moves most) =
    (keyword ≡ codes "moves") × IsLimitSaid MAX_MOVES operand most
IsSetting keyword operand (setting.States most) =
    (keyword ≡ codes "states") × (number_within 1 MAX_STATES operand ≡ Some most)
IsSetting keyword operand (setting.Memory most) =
    (keyword ≡ codes "memory") × (number_within 1 MAX_MEMORY operand ≡ Some most)
IsSetting keyword operand (setting.Exact exact) =
    (keyword ≡ codes "exact") × IsSwitchSaid operand exact
IsSetting keyword operand (setting.Isr said) = (keyword ≡ codes "isr") × IsIsrOf operand said
IsSetting keyword operand setting.NoIsrs = (keyword ≡ codes "isr") × (operand ≡ codes "none")

-- A line with this keyword, and this behind it, says that.
abbrev pub IsLine : List ℕ → List ℕ → EngineLine → Type 0
IsLine keyword operand line.Boot = (keyword ≡ codes "from") × (operand ≡ [])
IsLine keyword operand (line.From path) = (keyword ≡ codes "from") × (operand ≡ path.now)
IsLine keyword operand (line.Command command) = (keyword ≡ codes "line") × (operand ≡ command.now)
IsLine keyword operand (line.Set made) = IsSetting keyword operand made
IsLine keyword operand (line.Ask query goal) = (keyword ≡ query_word query) × (operand ≡ goal.now)
IsLine keyword operand line.Help = (keyword ≡ codes "help") × (operand ≡ [])
IsLine keyword operand line.Quit = (keyword ≡ codes "quit") × (operand ≡ [])

-- The text, without space at either end, is a line that says that.
abbrev pub IsSaid : List ℕ → EngineLine → Type 0
IsSaid text said = IsLine (keyword_of (trim text)) (operand_of (trim text)) said

-- ---- why a line says nothing

-- the words by which settings begin
abbrev pub setting_words : List (List ℕ)
setting_words = codes "pace" ∷ codes "surprises" ∷ codes "moves" ∷ codes "states" ∷ codes "memory"
    ∷ codes "exact" ∷ codes "isr" ∷ []

-- the words by which other lines begin with something behind them, and those that stand alone
abbrev pub words_before : List (List ℕ)
words_before = codes "from" ∷ codes "line" ∷ codes "reach" ∷ codes "lost" ∷ codes "doomed" ∷ []

abbrev pub words_alone : List (List ℕ)
words_alone = codes "help" ∷ codes "quit" ∷ []

-- By this keyword a number is said, from the least to the most.
abbrev pub IsLimit : List ℕ → ℕ → ℕ → Type 0
IsLimit keyword least most =
    ((keyword ≡ codes "surprises") × (least ≡ 0) × (most ≡ MAX_SURPRISES))
    ⊎ ((keyword ≡ codes "moves") × (least ≡ 0) × (most ≡ MAX_MOVES))
    ⊎ ((keyword ≡ codes "states") × (least ≡ 1) × (most ≡ MAX_STATES))
    ⊎ ((keyword ≡ codes "memory") × (least ≡ 1) × (most ≡ MAX_MEMORY))

-- The operand of the keyword is no number within its limits, which the cause says.
abbrev pub IsNoLimit : List ℕ → List ℕ → ReachFault → Type 0
IsNoLimit keyword operand cause = (option : Bor (List ℕ)) × (least : ℕ) × (most : ℕ)
    × (cause ≡ fault.Number option least most) × (option.now ≡ codes "--" ++ keyword)
    × IsLimit keyword least most × (number_within least most operand ≡ None)

-- Why a line with this keyword, and this behind it, is no setting.
abbrev pub IsWhyNoSetting : List ℕ → List ℕ → ReachFault → Type 0
IsWhyNoSetting keyword operand cause =
    ((cause ≡ fault.NoLine) × IsNoneOf setting_words keyword)
    ⊎ ((keyword ≡ codes "pace") × (why : NoPace) × (cause ≡ fault.Pace why)
    × IsNoPace why operand)
    ⊎ IsNoLimit keyword operand cause
    ⊎ ((keyword ≡ codes "exact") × (cause ≡ fault.Switch)
    × IsNoneOf (codes "on" ∷ codes "off" ∷ []) operand)
    ⊎ ((keyword ≡ codes "isr") × (why : NoHandler) × (cause ≡ fault.Isr why) × SaysTwice operand why)

-- Why it says nothing: no other line begins so, and it is no setting.
pub record IsWhyNoLine (keyword operand : List ℕ) (cause : ReachFault) : Type 0 where
  pub before : IsNoneOf words_before keyword
  pub alone : operand ≡ [] → IsNoneOf words_alone keyword
  pub setting : IsWhyNoSetting keyword operand cause

-- Why the text, without space at either end, is no line.
abbrev pub IsWhyUnsaid : List ℕ → ReachFault → Type 0
IsWhyUnsaid text cause = IsWhyNoLine (keyword_of (trim text)) (operand_of (trim text)) cause

-- ---- settings

-- The setting's number is within its limits.
abbrev pub IsWithinLimits : EngineSetting → Type 0
IsWithinLimits (setting.Pace pace) = ⊤
IsWithinLimits (setting.Surprises most) = ⊤
IsWithinLimits (setting.Moves most) = IfSome most (λ number. number ≤ MAX_MOVES)
IsWithinLimits (setting.States most) = most ≤ MAX_STATES
IsWithinLimits (setting.Memory most) = most ≤ MAX_MEMORY
IsWithinLimits (setting.Exact exact) = ⊤
IsWithinLimits (setting.Isr said) = ⊤
IsWithinLimits setting.NoIsrs = ⊤

abbrev pub IsLineWithinLimits : EngineLine → Type 0
IsLineWithinLimits line.Boot = ⊤
IsLineWithinLimits (line.From path) = ⊤
IsLineWithinLimits (line.Command command) = ⊤
IsLineWithinLimits (line.Set made) = IsWithinLimits made
IsLineWithinLimits (line.Ask query goal) = ⊤
IsLineWithinLimits line.Help = ⊤
IsLineWithinLimits line.Quit = ⊤

-- The engine has one interrupt more, behind the others: the one of which this is said, and it may
-- come.
abbrev pub HasOneMore : Said → EngineView → EngineView → Type 0
HasOneMore said old new = (isr : Handler) × IsSaidBy said isr
    × (new ≡ record old { isrs = old.isrs ++ isr ∷ [] }) × MayCome old.app (old.isrs ++ isr ∷ [])

-- The setting is made, and nothing else has changed.
abbrev pub IsSet : EngineSetting → EngineView → EngineView → Type 0
IsSet (setting.Pace pace) old new = new ≡ record old { pace = pace }
IsSet (setting.Surprises most) old new = new ≡ record old { surprises = most }
IsSet (setting.Moves most) old new = new ≡ record old { moves = most }
IsSet (setting.States most) old new = new ≡ record old { states = most }
IsSet (setting.Memory most) old new = new ≡ record old { memory = most }
IsSet (setting.Exact exact) old new = new ≡ record old { exact = exact }
IsSet (setting.Isr said) old new = HasOneMore said old new
IsSet setting.NoIsrs old new = new ≡ record old { isrs = [] }

-- Searches begin elsewhere, where they can, and nothing else has changed.
abbrev pub BeginsElsewhere : EngineView → EngineView → Type 0
BeginsElsewhere old new =
    (lines : List ℕ) × (new ≡ record old { lines = lines }) × LeadOn old.app lines
