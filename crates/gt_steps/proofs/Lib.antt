mod Forced
mod Stepped
mod SizeLines
