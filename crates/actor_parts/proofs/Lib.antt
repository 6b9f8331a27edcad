mod Lists
mod Names
mod Rows
mod PartWrites
mod PartReads
mod PartCalls
mod PartAdds
