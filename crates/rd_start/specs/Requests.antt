-- What a command line may ask for, and what is loaded for it.
use Rattle.std.specs.Prelude.{ℕ, ◌≡◌, ◌≢◌, ◌≤◌, ◌⊎◌, ⊤, true, List, [], ◌∷◌, length, Option, Some}
use Rattle.std.specs.Prelude.{None, IfSome, IsSome, Err, codes, option_map}
use Rattle.std.specs.Str.Parse.{digits_value, without_leading_plus}
use Rattle.std.specs.declared.io.ErrorKind.{ErrorKind}
use Rattle.std.specs.declared.io.ErrorKind.TheVariants.{OutOfMemory}
use Rattle.clap.specs.Words.{App as CommandLine, IsAmong, IsUnsignedIn, Row, Rule, Text, fault_of}
use Rattle.clap.specs.Words.{first_of, new_app, new_rule, one_of, subcommand_of, with_rule}
use Rattle.clap.specs.Words.{with_subcommand}
use Rattle.clap.specs.Simple.{on_top}
use Rattle.clap.specs.declared.builder.value_parser.ValueParser.TheVariants.{Unsigned}
use Rattle.clap.specs.declared.error.kind.ErrorKind.TheVariants as kind
use Rattle.clap.specs.declared.error.kind.ErrorKind.{ErrorKind as Refusal}
use Rattle.rd_script.specs.declared.error.AppError.TheVariants as fault
use Rattle.rd_names.specs.Apps.{AppView, IsApp}
use Rattle.rd_script.specs.File.{app_of_bytes}
use Rattle.rd_script.specs.Says.{FileSays}
use Rattle.rd_start.specs.declared.fault.Fault.{Fault}
use Rattle.rd_start.specs.declared.fault.Fault.TheVariants.{BadCommandLine, CannotRead, App}
use Rattle.rd_start.specs.declared.fault.Fault.TheVariants.{NoMemory}
use Rattle.rd_start.specs.declared.options.Settings.{Settings}
use Rattle.rd_start.specs.declared.options.StartRequest.{StartRequest}
use Rattle.rd_start.specs.declared.options.StartRequest.TheVariants.{Run, Serve, Help}

-- 1 to 1,000,000 moves, and a history of 2 to 1,000,000 entries
pub record IsWithinLimits (settings : Settings) : Type 0 where
  pub some : 1 ≤ settings.moves
  pub most : settings.moves ≤ 1000000
  pub two : 2 ≤ settings.history
  pub most_entries : settings.history ≤ 1000000

-- An application is named, and there are 1 to 64 sessions over a port from 1 to 65,535.
pub record IsServable (settings : Settings) (port sessions : ℕ) : Type 0 where
  pub each : IsWithinLimits settings
  pub named : IsSome settings.app
  pub least_port : 1 ≤ port
  pub most_port : port ≤ 65535
  pub one : 1 ≤ sessions
  pub most : sessions ≤ 64

abbrev pub IsRequestWithinLimits : StartRequest → Type 0
IsRequestWithinLimits (Run settings) = IsWithinLimits settings
IsRequestWithinLimits (Serve settings port sessions) = IsServable settings port sessions
IsRequestWithinLimits (Help text) = ⊤

-- Help, and no session.
abbrev pub IsHelp : StartRequest → Type 0
IsHelp (Run settings) = ⊥
IsHelp (Serve settings port sessions) = ⊥
IsHelp (Help text) = ⊤

-- Sessions over a port.
abbrev pub IsServer : StartRequest → Type 0
IsServer (Run settings) = ⊥
IsServer (Serve settings port sessions) = ⊤
IsServer (Help text) = ⊥

-- ---- the words of the command line, by what `clap` says of a parse

-- `--app FILE`
abbrev pub app_option : Rule
app_option = record (new_rule (codes "app")) { long = Some (codes "app"); value_names = 1 }

-- `--moves COUNT`: 1 to 1,000,000, and 100,000 where it isn't given
abbrev pub moves_option : Rule
moves_option = record (new_rule (codes "moves")) {
  long = Some (codes "moves");
  value_names = 1;
  parser = Some (Unsigned 1 1000000);
  defaults = codes "100000" ∷ [];
}

-- `--history COUNT`: 2 to 1,000,000, and 100,000 where it isn't given
abbrev pub history_option : Rule
history_option = record (new_rule (codes "history")) {
  long = Some (codes "history");
  value_names = 1;
  parser = Some (Unsigned 2 1000000);
  defaults = codes "100000" ∷ [];
}

-- `--app FILE`, where there has to be one
abbrev pub served_app_option : Rule
served_app_option = record app_option { required = true }

-- `--port PORT`: 1 to 65,535
abbrev pub port_option : Rule
port_option = record (new_rule (codes "port")) {
  long = Some (codes "port");
  value_names = 1;
  parser = Some (Unsigned 1 65535);
  required = true;
}

-- `--sessions COUNT`: 1 to 64
abbrev pub sessions_option : Rule
sessions_option = record (new_rule (codes "sessions")) {
  long = Some (codes "sessions");
  value_names = 1;
  parser = Some (Unsigned 1 64);
  required = true;
}

-- `run` with its three options
abbrev pub run_line : CommandLine
run_line =
    with_rule (with_rule (with_rule (new_app (codes "run")) app_option) moves_option)
    history_option

-- `serve` with its five options, of which three have to be there
abbrev pub serve_line : CommandLine
serve_line =
    with_rule (with_rule (with_rule (with_rule (with_rule (new_app (codes "serve"))
    served_app_option) port_option) sessions_option) moves_option) history_option

-- No word is the program's own name, and there has to be a subcommand.
abbrev pub top_line : CommandLine
top_line = on_top (λ top. record top { no_binary_name = true; subcommand_required = true })
    (new_app (codes "rdbg"))

-- The command line: `run [--app FILE] [--moves COUNT] [--history COUNT]`, or
-- `serve --app FILE --port PORT --sessions COUNT [--moves COUNT] [--history COUNT]`.
abbrev pub command_line : CommandLine
command_line = with_subcommand (with_subcommand top_line run_line.top) serve_line.top

-- The words that are read: where there are none, `run` alone.
abbrev pub words_read : List Text → List Text
words_read [] = codes "run" ∷ []
words_read (word ∷ words) = word ∷ words

-- The kinds of what is wrong with the words; help is one of them.
unfoldable pub faults_of : List Text → List Refusal
faults_of words = fault_of command_line words

-- The subcommand that the words name, and what they give for its options.
unfoldable pub subcommand_in : List Text → Option (Text × List Row)
subcommand_in words = subcommand_of command_line words

-- What was found for the options of a subcommand.
abbrev pub options_of : Option (Text × List Row) → List Row
options_of None = []
options_of (Some found) = found.1

-- A number as it is written: decimal digits, behind a plus or not.
abbrev pub number_asked : Text → ℕ
number_asked text = digits_value 10 (without_leading_plus text)

-- The number is the value of the option of that name.
abbrev pub IsNumberOf : Text → List Row → ℕ → Type 0
IsNumberOf name options number = Some number ≡ option_map number_asked (one_of name options)

-- The settings are the values of these options.
pub record AreSettingsIn (options : List Row) (settings : Settings) : Type 0 where
  pub app : option_map (λ path. path.now) settings.app ≡ first_of (codes "app") options
  pub moves : IsNumberOf (codes "moves") options settings.moves
  pub history : IsNumberOf (codes "history") options settings.history

-- A server's settings, its port and how many sessions it serves are the values of these options.
pub record IsServerIn (options : List Row) (each : Settings) (at many : ℕ) : Type 0 where
  pub settings : AreSettingsIn options each
  pub port : IsNumberOf (codes "port") options at
  pub sessions : IsNumberOf (codes "sessions") options many

-- What a request carries are the values of these options.
abbrev pub HasSettingsIn : List Row → StartRequest → Type 0
HasSettingsIn options (Run settings) = AreSettingsIn options settings
HasSettingsIn options (Serve settings port sessions) = IsServerIn options settings port sessions
HasSettingsIn options (Help text) = ⊤

-- Among these options is one of that name, with a number from the least to the most.
abbrev pub HasNumber : Text → ℕ → ℕ → List Row → Type 0
HasNumber name least most options =
    (text : Text) × (one_of name options ≡ Some text) × IsUnsignedIn least most text

-- Among these options are moves and a history, and as many as may be.
pub record HasLimits (options : List Row) : Type 0 where
  pub moves : HasNumber (codes "moves") 1 1000000 options
  pub history : HasNumber (codes "history") 2 1000000 options

-- Among these options is all that a server has to have, and as many as may be.
pub record HasServerLimits (options : List Row) : Type 0 where
  pub each : HasLimits options
  pub app : IsSome (first_of (codes "app") options)
  pub port : HasNumber (codes "port") 1 65535 options
  pub sessions : HasNumber (codes "sessions") 1 64 options

-- It is that subcommand.
abbrev pub IsNamed : Text → Option (Text × List Row) → Type 0
IsNamed name found = option_map (λ subcommand. subcommand.0) found ≡ Some name

-- It is `run` or `serve`, with what each has to have.
abbrev pub IsWhole : Option (Text × List Row) → Type 0
IsWhole found = (IsNamed (codes "run") found × HasLimits (options_of found))
    ⊎ (IsNamed (codes "serve") found × HasServerLimits (options_of found))

-- A session is asked for by `run`, and a server by `serve`.
abbrev pub IsNamedBy : Option (Text × List Row) → StartRequest → Type 0
IsNamedBy found (Run settings) = IsNamed (codes "run") found
IsNamedBy found (Serve settings port sessions) = IsNamed (codes "serve") found
IsNamedBy found (Help text) = ⊥

-- A request carries what the words say.
abbrev pub HasSettingsOf : List Text → StartRequest → Type 0
HasSettingsOf words request = HasSettingsIn (options_of (subcommand_in words)) request

-- Nothing is wrong with the words, and they name that subcommand.
pub record AskFor (name : Text) (words : List Text) : Type 0 where
  pub faults : faults_of words ≡ []
  pub subcommand : IsNamed name (subcommand_in words)

-- A session or a server is what the words ask for, and words that get help ask for that.
abbrev pub IsAskedBy : List Text → StartRequest → Type 0
IsAskedBy words (Run settings) = AskFor (codes "run") words
IsAskedBy words (Serve settings port sessions) = AskFor (codes "serve") words
IsAskedBy words (Help text) = IsAmong kind.DisplayHelp (faults_of words)

-- Something else is wrong with the words than that they ask for help.
abbrev pub AreRefused : List Text → Type 0
AreRefused words =
    (refusal : Refusal) × IsAmong refusal (faults_of words) × (refusal ≢ kind.DisplayHelp)

-- Words are a bad line where they are refused, and else there is no memory.
abbrev pub IsFaultOfWords : List Text → Fault → Type 0
IsFaultOfWords words BadCommandLine = AreRefused words
IsFaultOfWords words CannotRead = ⊥
IsFaultOfWords words (App error) = ⊥
IsFaultOfWords words NoMemory = ⊤

-- What an error of a parse comes to, where it doesn't come to help.
abbrev pub IsFaultOfError : Refusal → Fault → Type 0
IsFaultOfError error BadCommandLine = (error ≢ kind.OutOfMemory) × (error ≢ kind.DisplayHelp)
IsFaultOfError error CannotRead = ⊥
IsFaultOfError error (App of_file) = ⊥
IsFaultOfError error NoMemory = (error ≡ kind.OutOfMemory) ⊎ (error ≡ kind.DisplayHelp)

-- ---- the application file

-- as many bytes as a file may have
abbrev pub IsFile : List ℕ → Type 0
IsFile bytes = length bytes ≤ 1048576

-- It is the application that a file says.
abbrev pub IsOfAFile : AppView → Type 0
IsOfAFile app = (bytes : List ℕ) × IsFile bytes × FileSays bytes app × IsApp app

-- These are the bytes that a reader has up to its end, where those are known.
abbrev pub AreAllOf : Option (List ℕ) → List ℕ → Type 0
AreAllOf known bytes = IfSome known (λ all. bytes ≡ all)

-- It is the application that a reader's bytes say.
abbrev pub IsSaidBy : Option (List ℕ) → AppView → Type 0
IsSaidBy known app =
    (bytes : List ℕ) × AreAllOf known bytes × IsFile bytes × FileSays bytes app × IsApp app

-- The fault of a file that can't be opened or read, by the kind of what was met.
pub record IsFaultOfKind (kind : ErrorKind) (fault : Fault) : Type 0 where
  pub no_memory : kind ≡ OutOfMemory → fault ≡ NoMemory
  pub unread : kind ≢ OutOfMemory → fault ≡ CannotRead

-- A file's application is refused with its first fault, but for want of memory.
abbrev pub IsRefusalOf : List ℕ → Fault → Type 0
IsRefusalOf bytes BadCommandLine = ⊥
IsRefusalOf bytes CannotRead = ⊥
IsRefusalOf bytes (App error) = error ≢ fault.Memory → app_of_bytes bytes ≡ Err error
IsRefusalOf bytes NoMemory = ⊥

-- Where a fault is a refusal, it is that of bytes that a file may have.
abbrev pub IsOfARefusedFile : Fault → Type 0
IsOfARefusedFile BadCommandLine = ⊤
IsOfARefusedFile CannotRead = ⊤
IsOfARefusedFile (App error) = (bytes : List ℕ) × IsFile bytes × IsRefusalOf bytes (App error)
IsOfARefusedFile NoMemory = ⊤

-- Why a reader's bytes give no application: they can't be read, or they are refused.
abbrev pub IsFaultOf : Option (List ℕ) → Fault → Type 0
IsFaultOf known BadCommandLine = ⊥
IsFaultOf known CannotRead = ⊤
IsFaultOf known (App error) =
    (bytes : List ℕ) × AreAllOf known bytes × IsFile bytes × IsRefusalOf bytes (App error)
IsFaultOf known NoMemory = ⊤
