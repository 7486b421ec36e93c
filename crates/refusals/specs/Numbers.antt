-- Every refusal of the product: its number, the value it carries, its rule in words.
use Rattle.std.specs.Prelude.{List, ℕ, codes}
use Rattle.refusals.specs.declared.Refusal.{Refusal}
use Rattle.refusals.specs.declared.Refusal.TheVariants.{CutShort, WrongShape, OutOfOrder, OutsideSheetLimits, LinkCount, LinkTooHigh, NotUsable, NoneTaken, OutsideLimits, NotSites, TableTooShort, NoRoute, OneLink, NotCircuit, WrongRow, EightHeld, NotHeld, BufferTooShort, FieldOutsideLimits}
use Rattle.refusals.specs.declared.Carried.{Carried}
use Rattle.refusals.specs.declared.Carried.TheVariants.{Place, Link, Hold, Nothing}

-- the number by which a refusal is told; new refusals take the numbers after the last
abbrev pub number : Refusal → ℕ
number (CutShort place) = 1
number (WrongShape place) = 2
number (OutOfOrder place) = 3
number (OutsideSheetLimits place) = 4
number (LinkCount place) = 5
number LinkTooHigh = 6
number NotUsable = 7
number NoneTaken = 8
number OutsideLimits = 9
number NotSites = 10
number TableTooShort = 11
number NoRoute = 12
number (OneLink link) = 13
number NotCircuit = 14
number WrongRow = 15
number EightHeld = 16
number (NotHeld board circuit) = 17
number BufferTooShort = 18
number FieldOutsideLimits = 19

-- the value that comes with it: a record's byte place, a link, the hold handed back (its board and circuit), or nothing
abbrev pub value : Refusal → Carried
value (CutShort place) = Place place
value (WrongShape place) = Place place
value (OutOfOrder place) = Place place
value (OutsideSheetLimits place) = Place place
value (LinkCount place) = Place place
value LinkTooHigh = Nothing
value NotUsable = Nothing
value NoneTaken = Nothing
value OutsideLimits = Nothing
value NotSites = Nothing
value TableTooShort = Nothing
value NoRoute = Nothing
value (OneLink link) = Link link
value NotCircuit = Nothing
value WrongRow = Nothing
value EightHeld = Nothing
value (NotHeld board circuit) = Hold board circuit
value BufferTooShort = Nothing
value FieldOutsideLimits = Nothing

-- the rule that was broken, as text
abbrev pub rule : Refusal → List ℕ
rule (CutShort place) = codes "fewer than 4 bytes are left, or the payload is cut short"
rule (WrongShape place) = codes "the kind is unknown here, the payload's length is wrong for the kind, or bytes follow a certificate"
rule (OutOfOrder place) = codes "the record is out of order"
rule (OutsideSheetLimits place) = codes "a number, an end or a byte of a name is outside its limits"
rule (LinkCount place) = codes "there is a link more than the header says, or fewer at the sheet's end"
rule LinkTooHigh = codes "the link number is too high"
rule NotUsable = codes "the link is not usable: it is dark or has no channel free"
rule NoneTaken = codes "no channel of the link is taken"
rule OutsideLimits = codes "a number is outside its limits"
rule NotSites = codes "the root or the target is not a site, or they are equal"
rule TableTooShort = codes "a table is too short"
rule NoRoute = codes "no route leads there"
rule (OneLink link) = codes "every route uses this link"
rule NotCircuit = codes "a circuit is numbered 1 to 32"
rule WrongRow = codes "the circuit's row is not vacant, or not confirmed"
rule EightHeld = codes "eight circuits are held already"
rule (NotHeld board circuit) = codes "the hold is of another board, or its row is not held"
rule BufferTooShort = codes "the buffer is too short for this certificate"
rule FieldOutsideLimits = codes "a field is outside its limits"
