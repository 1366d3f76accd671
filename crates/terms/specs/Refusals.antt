-- The number of each refusal, and its words.
use Rattle.std.specs.Prelude.{ℕ, List, codes}
use Rattle.terms.specs.declared.refusal.Refusal.{Refusal}
use Rattle.terms.specs.declared.refusal.Refusal.TheVariants.{SheetSize, RuleCount, Distance, Frame, ComponentType, Components, Value, Descriptor, Precedence, Surplus, Memory, NoPacket, NoRule, LineDown, Length, Limit, NoLine, Unknown, Delay, Request, Answer, AnswerTime, AnswersMissing}

abbrev pub number_of : Refusal → ℕ
number_of SheetSize = 1
number_of RuleCount = 2
number_of Distance = 3
number_of Frame = 4
number_of ComponentType = 5
number_of Components = 6
number_of Value = 7
number_of Descriptor = 8
number_of Precedence = 9
number_of Surplus = 10
number_of Memory = 11
number_of NoPacket = 12
number_of NoRule = 13
number_of LineDown = 14
number_of Length = 15
number_of Limit = 16
number_of NoLine = 17
number_of Unknown = 18
number_of Delay = 19
number_of Request = 20
number_of Answer = 21
number_of AnswerTime = 22
number_of AnswersMissing = 23

abbrev pub words_of : Refusal → List ℕ
words_of SheetSize = codes "a sheet has 3 to 16384 octets"
words_of RuleCount = codes "a sheet has 1 to 128 rules"
words_of Distance = codes "the distance leads past the first octet of the sheet"
words_of Frame = codes "a rule, a component or a descriptor does not fit its place"
words_of ComponentType = codes "unknown type of component"
words_of Components = codes "a rule has no component, a type twice, or match-all beside another"
words_of Value = codes "the component's value is out of range"
words_of Descriptor = codes "the access descriptor has a wrong length, functionality, mode or information"
words_of Precedence = codes "the precedence stands in an earlier rule"
words_of Surplus = codes "octets are left over before the trailer"
words_of Memory = codes "the memory is too short, or the sheet is over 16384 octets"
words_of NoPacket = codes "the octets are no packet"
words_of NoRule = codes "no rule in force matches the packet"
words_of LineDown = codes "the line is down"
words_of Length = codes "the length is 0 or over the longest"
words_of Limit = codes "the limit is reached"
words_of NoLine = codes "no line that the rule admits is able"
words_of Unknown = codes "unknown code or position"
words_of Delay = codes "the delay is too large"
words_of Request = codes "the request number is above 63 or given before"
words_of Answer = codes "another transaction, a request not sent, or one answered before"
words_of AnswerTime = codes "the answer is before the start or too late"
words_of AnswersMissing = codes "an answer is missing"
