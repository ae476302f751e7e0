mod RootPlay
