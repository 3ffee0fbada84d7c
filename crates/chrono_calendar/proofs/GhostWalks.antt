-- A struct whose fields take no bytes: its value at run time, and its fields as the logic lists them.
use Rattle.std.proofs.Common.{[]}
use mir.Val.{Val, vstruct, vnil}
use denote.Struct.Struct.{Shape}

abbrev pub no_bytes : Val
no_bytes = vstruct vnil

abbrev pub fieldless : Shape
fieldless = record { name = []; args = []; types = []; fields = [] }
